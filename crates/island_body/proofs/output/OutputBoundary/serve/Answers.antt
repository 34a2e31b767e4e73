-- The goals of `boundary::OutputBoundary::serve` that the search leaves.
use Rattle.std.proofs.Common.{◌≡◌, ℕ, false, rules}
use Rattle.lane_core.specs.Ends.{saw_cancel}
use Rattle.interpreter.specs.Boundary.{Leaves, way_out, cell_out}
use Rattle.island_body.proofs.Beside.{place_out_beside}
use Rattle.island_body.proofs.Serving.{serves_asked}
use Rattle.island_body.proofs.output.OutputBoundary.serve.Goals as goal

pub send_one-requires-clause-place : goal.send_one-requires-clause-place
send_one-requires-clause-place g c = place_out_beside _ _ c.args.place c.args.island.now c.loop-sent.island c.args.self.now.wire c.loop-sent.self.wire c.loop-sent.invariant.7 c.loop-sent.invariant.1 c.requires.place

pub came_by_place-requires-clause-place : goal.came_by_place-requires-clause-place
came_by_place-requires-clause-place g c =
    let before : c.args.place ≡ way_out c.loop-sent.island c.loop-sent.self.wire = place_out_beside _ _ c.args.place c.args.island.now c.loop-sent.island c.args.self.now.wire c.loop-sent.self.wire c.loop-sent.invariant.7 c.loop-sent.invariant.1 c.requires.place in
    search rules

pub ask_empty-requires-clause-place : goal.ask_empty-requires-clause-place
ask_empty-requires-clause-place g c =
    let before : c.args.place ≡ way_out c.loop-sent.island c.loop-sent.self.wire = place_out_beside _ _ c.args.place c.args.island.now c.loop-sent.island c.args.self.now.wire c.loop-sent.self.wire c.loop-sent.invariant.7 c.loop-sent.invariant.1 c.requires.place in
    search rules

pub returns-clause-serves : goal.returns-clause-serves
returns-clause-serves g c =
    let i = c.send_one.new.island in
    let u : ℕ = c.send_one.new.self.wire in
    let zero_is : saw_cancel c.args.self.now.lane ≡ 0 = search rules in
    let whole : c.send_one.new.island.broken ≡ false = search rules in
    let leaves : Leaves c.send_one.new.island c.send_one.new.self.wire = search rules in
    let cell : cell_out c.send_one.new.island c.send_one.new.self.wire ≡ cell_out c.args.island.now c.args.self.now.wire = search rules in
    let keeps = c.laws.ensures whole in
    serves_asked c.send_one.new.self.lane c.send_one.new.island c.send_one.new.self.wire c.came_by_place.ensures (keeps.laws.wired.to_within (way_out c.send_one.new.island c.send_one.new.self.wire) leaves.place) c.send_one.ensures.keeps
    (λ e. let l = c.requires.serves.left (rw cell at e) in cc) c.ask_empty.new.island c.ask_empty.ensures.keeps c.ask_empty.ensures.got c.ask_empty.ensures.left
