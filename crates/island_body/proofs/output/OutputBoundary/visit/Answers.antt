-- The goals of `boundary::OutputBoundary::visit` that the search leaves.
use Rattle.std.proofs.Common.{◌≡◌, ℕ, ◌<◌, length, rules}
use Rattle.fused_net.proofs.Reading.{get_there}
use Rattle.lane_core.specs.Ends.{saw_cancel}
use Rattle.interpreter.specs.Boundary.{Leaves, Drops, way_out}
use Rattle.island_body.specs.Beside.{out_node}
use Rattle.island_body.specs.Sending.{Sends}
use Rattle.island_body.specs.Serving.{Serves}
use Rattle.island_body.proofs.Beside.{beside_drops}
use Rattle.island_body.proofs.Serving.{serves_found, cancelled_serves}
use Rattle.island_body.proofs.output.OutputBoundary.visit.Goals as goal

pub returns-in-Demand-clause-serves : goal.returns-in-Demand-clause-serves
returns-in-Demand-clause-serves g c =
    let zero_is : saw_cancel c.args.self.now.lane ≡ 0 = search rules in
    let kept : Serves c.args.self.now.lane c.args.island.now c.look-found.new.self.wire = rw c.look-found.ensures.wire.0 c.requires.serves in
    serves_found c.args.self.now.lane c.args.island.now c.look-found.new.self.wire kept zero_is c.look-found.new.self.lane c.ask.new.island c.look-found.ensures.sent.0 c.ask.ensures.keeps c.ask.ensures.got c.ask.ensures.left

pub returns-in-Cancelled-clause-serves : goal.returns-in-Cancelled-clause-serves
returns-in-Cancelled-clause-serves g c =
    let zero_is : saw_cancel c.args.self.now.lane ≡ 0 = search rules in
    let sends : Sends c.args.self.now.lane c.args.island.now c.look-found.new.self.wire = rw c.look-found.ensures.wire.0 (c.requires.serves.live zero_is) in
    let leaves : Leaves c.args.island.now c.look-found.new.self.wire = rw c.look-found.ensures.wire.0 c.requires.leaves in
    let keeps = c.laws.ensures c.requires.whole in
    cancelled_serves c.args.self.now.lane c.args.island.now c.look-found.new.self.wire c.came_by_place.ensures sends leaves (keeps.laws.wired.to_within (way_out c.args.island.now c.look-found.new.self.wire) leaves.place) c.look-found.new.self.lane c.cancel_by_place.new.self
    c.cancel_by_place.ensures.drops c.look-found.ensures.sent.0 c.look-found.ensures.sent.2 c.in-Cancelled.ensures.found

pub returns-in-Cancelled-clause-beside : goal.returns-in-Cancelled-clause-beside
returns-in-Cancelled-clause-beside g c =
    let keeps = c.laws.ensures c.requires.whole in
    let x = get_there c.args.island.now.net.nodes (out_node c.args.island.now c.args.self.now.wire) (keeps.laws.wired.to_within (way_out c.args.island.now c.args.self.now.wire) c.requires.leaves.place) in
    let drops : Drops c.args.island.now c.args.self.now.wire c.cancel_by_place.new.self = rw c.look-found.ensures.wire.0 at c.cancel_by_place.ensures.drops in
    beside_drops c.args.island.now c.cancel_by_place.new.self c.args.self.now.wire x.0 x.1 drops
