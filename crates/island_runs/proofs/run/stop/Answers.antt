-- The goals of `run::stop` that the search leaves.
use Rattle.std.proofs.Common.{◌≡◌, ◌∙◌, ℕ, List, ap, map, length, refl, sym, subst, arith}
use Rattle.std.proofs.lemmas.List.{length-map}
use Rattle.std.specs.Vec.{with_items}
use Rattle.blue_check.specs.Wires.{blueprint_wires}
use Rattle.stream_model.specs.declared.blueprint.Node as blue
use Rattle.stream_model.specs.declared.outcome.WireCount.{WireCount}
use Rattle.run_laws.specs.Pictures.{picture_counts}
use Rattle.materializer.specs.Graphs.{graph_of}
use Rattle.blue_check.specs.Plan.{lanes_from}
use Rattle.island_plans.specs.LaneEnds.{AreRising}
use Rattle.nodes.specs.Nodes.{node_seat}
use Rattle.island_plans.specs.Asked.{LieThere, AreAsked, AreNoted, AreWithin}
use Rattle.bodies_run.specs.Counts.{lane_demand, told_from}
use Rattle.bodies_run.specs.Leaving.{account_in}
use Rattle.island_runs.specs.Whole.{whole_of}
use Rattle.island_runs.proofs.Calm.{none_late_in}
use Rattle.island_runs.proofs.Cancelling.{cancels_cross}
use Rattle.island_runs.proofs.Preparing.{told_many}
use Rattle.island_runs.proofs.Running.{came_back}
use Rattle.island_runs.proofs.Stopping.{left_seats, leaves, kept}
use Rattle.island_runs.proofs.run.stop.Goals as goal

pub asked_of-all-requires-clause-lie : goal.asked_of-all-requires-clause-lie
asked_of-all-requires-clause-lie g c =
    let begun = c.requires.1.1.1.0 in
    let r = c.requires.1.1.1.1.1 in
    let stay = c.ends_stay_at_their_crossings.ensures in
    let crossings = c.args.crossings.now in
    subst (λ bodies. LieThere bodies crossings) (sym c.deref.ensures.value) (stay.lie crossings begun c.args.bodies.items r.began.meet (stay.went begun c.args.bodies.items r.went))

pub join_ends-end-requires-clause-ends : goal.join_ends-end-requires-clause-ends
join_ends-end-requires-clause-ends g c =
    let b = c.requires.0 in
    let begun = c.requires.1.1.1.0 in
    let r = c.requires.1.1.1.1.1 in
    let m = r.began in
    let now = c.args.bodies.items in
    let crossings = c.args.crossings.now in
    let all = lane_demand c.args.remains.lanes.items c.asked_of-all.result.items in
    let back = c.bodies_leave_a_run.ensures.back b m.homes m.count m.nodes crossings begun now m.bodies_are r.went r.keep in
    let law = c.bodies_leave_what_their_nodes_do.ensures in (
      whole_of m.homes (blueprint_wires b) m.nodes (account_in m.homes (blueprint_wires b) now all).near back.0 back.1.0,
      law.ends b m.homes m.count m.nodes crossings begun now all back.0 back.1.0 c.finish_all-ends.result.items m.bodies_are m.numbered r.went r.keep back.1.1 c.finish_all-ends.ensures,
      law.homes b m.homes m.count m.nodes crossings begun now all back.0 back.1.0 c.requires.1.0 c.requires.1.1.0 c.args.remains.homes m.seats m.bodies_are r.went r.keep back.1.1 m.homes_are,
    )

pub counts_of-wires-requires-clause-room : goal.counts_of-wires-requires-clause-room
counts_of-wires-requires-clause-room g c =
    let b = c.requires.0 in
    let begun = c.requires.1.1.1.0 in
    let r = c.requires.1.1.1.1.1 in
    let m = r.began in
    let now = c.args.bodies.items in
    let crossings = c.args.crossings.now in
    let all = lane_demand c.args.remains.lanes.items c.asked_of-all.result.items in
    let near = (account_in m.homes (blueprint_wires b) now all).near in
    let back = c.bodies_leave_a_run.ensures.back b m.homes m.count m.nodes crossings begun now m.bodies_are r.went r.keep in
    let law = c.bodies_leave_what_their_nodes_do.ensures in
    let ends = law.ends b m.homes m.count m.nodes crossings begun now all back.0 back.1.0 c.finish_all-ends.result.items m.bodies_are m.numbered r.went r.keep back.1.1 c.finish_all-ends.ensures in
    let homes = law.homes b m.homes m.count m.nodes crossings begun now all back.0 back.1.0 c.requires.1.0 c.requires.1.1.0 c.args.remains.homes m.seats m.bodies_are r.went r.keep back.1.1 m.homes_are in
    let whole = c.join_ends-end.ensures (whole_of m.homes (blueprint_wires b) m.nodes near back.0 back.1.0) ends homes in
    let size : length c.deref-2.result.now ≡ length (blueprint_wires b) = ap length (c.deref-2.ensures.value ∙ whole.wires) ∙ told_many near 0 (blueprint_wires b) in
    omega (arith, size, m.room_to_count)

pub note_asked-requires-clause-within : goal.note_asked-requires-clause-within
note_asked-requires-clause-within g c =
    let b = c.requires.0 in
    let begun = c.requires.1.1.1.0 in
    let r = c.requires.1.1.1.1.1 in
    let m = r.began in
    let now = c.args.bodies.items in
    let crossings = c.args.crossings.now in
    let all = lane_demand c.args.remains.lanes.items c.asked_of-all.result.items in
    let near = (account_in m.homes (blueprint_wires b) now all).near in
    let back = c.bodies_leave_a_run.ensures.back b m.homes m.count m.nodes crossings begun now m.bodies_are r.went r.keep in
    let law = c.bodies_leave_what_their_nodes_do.ensures in
    let ends = law.ends b m.homes m.count m.nodes crossings begun now all back.0 back.1.0 c.finish_all-ends.result.items m.bodies_are m.numbered r.went r.keep back.1.1 c.finish_all-ends.ensures in
    let homes = law.homes b m.homes m.count m.nodes crossings begun now all back.0 back.1.0 c.requires.1.0 c.requires.1.1.0 c.args.remains.homes m.seats m.bodies_are r.went r.keep back.1.1 m.homes_are in
    let whole = c.join_ends-end.ensures (whole_of m.homes (blueprint_wires b) m.nodes near back.0 back.1.0) ends homes in
    let wires = c.counts_of-wires.ensures ∙ ap (map (λ (wire : ℕ × WireCount). wire.1)) (c.deref-2.ensures.value ∙ whole.wires) in
    let size : length c.deref_mut.result.now ≡ length (blueprint_wires b) = ap length (c.deref_mut.ensures.value ∙ wires) ∙ length-map (told_from near 0 (blueprint_wires b)) (λ (wire : ℕ × WireCount). wire.1) ∙ told_many near 0 (blueprint_wires b) in
    subst (λ (n : ℕ). AreWithin n c.deref-4.result.now) (sym size) (subst (λ lanes. AreWithin (length (blueprint_wires b)) lanes) (sym (c.deref-4.ensures.value ∙ m.lanes_are)) (c.told_asks_are_those_of_lanes.ensures.within m.homes b))

pub note_asked-requires-clause-order : goal.note_asked-requires-clause-order
note_asked-requires-clause-order g c = subst AreRising (sym c.deref-4.ensures.value) c.requires.1.1.1.1.1.began.rise

pub returns-clause-leaves : goal.returns-clause-leaves
returns-clause-leaves g c = λ b ss ds begun budget r.
    let m = r.began in
    let ws = blueprint_wires b in
    let now = c.args.bodies.items in
    let crossings = c.args.crossings.now in
    let lanes = c.args.remains.lanes.items in
    let asks = c.asked_of-all.result.items in
    let all = lane_demand lanes asks in
    let account = account_in m.homes ws now all in
    let run = c.bodies_leave_a_run.ensures in
    let back = run.back b m.homes m.count m.nodes crossings begun now m.bodies_are r.went r.keep in
    let law = c.bodies_leave_what_their_nodes_do.ensures in
    let ends = law.ends b m.homes m.count m.nodes crossings begun now all back.0 back.1.0 c.finish_all-ends.result.items m.bodies_are m.numbered r.went r.keep back.1.1 c.finish_all-ends.ensures in
    let homes = law.homes b m.homes m.count m.nodes crossings begun now all back.0 back.1.0 ss ds c.args.remains.homes m.seats m.bodies_are r.went r.keep back.1.1 m.homes_are in
    let whole = c.join_ends-end.ensures (whole_of m.homes ws m.nodes account.near back.0 back.1.0) ends homes in
    let left = law.left b m.homes m.count m.nodes crossings begun now all back.0 back.1.0 ss ds c.join_ends-end.result m.seats m.bodies_are r.went r.keep back.1.1 whole in
    let stay = c.ends_stay_at_their_crossings.ensures in
    let told = c.told_asks_are_those_of_lanes.ensures in
    let asked = subst (λ bodies. AreAsked bodies crossings asks) c.deref.ensures.value c.asked_of-all.ensures in
    let are = told.are lanes crossings now asks m.many m.rise (stay.aligned lanes crossings begun now m.aligned (stay.went begun now r.went)) asked in
    let wires = c.counts_of-wires.ensures ∙ ap (map (λ (wire : ℕ × WireCount). wire.1)) (c.deref-2.ensures.value ∙ whole.wires) in
    let noted-1 = subst (λ (xs : List ℕ). AreNoted xs c.deref-4.result.now c.deref_mut.result.now c.note_asked.new.counts) c.deref-3.ensures.value c.note_asked.ensures in
    let noted-2 = subst (λ ls. AreNoted asks ls c.deref_mut.result.now c.note_asked.new.counts) c.deref-4.ensures.value noted-1 in
    let noted-3 = subst (λ cs. AreNoted asks lanes cs c.note_asked.new.counts) (c.deref_mut.ensures.value ∙ wires) noted-2 in
    let noted = subst (λ ls. AreNoted asks ls (map (λ (wire : ℕ × WireCount). wire.1) (told_from (account_in m.homes ws now (lane_demand ls asks)).near 0 ws)) c.note_asked.new.counts) m.lanes_are noted-3 in
    let many : length asks ≡ length (lanes_from m.homes 0 ws) = asked.many ∙ m.many ∙ ap length m.lanes_are in
    let counts = subst (λ ls. c.note_asked.new.counts ≡ picture_counts (account_in m.homes ws now (lane_demand ls asks)) (graph_of b)) (sym m.lanes_are) (c.noted_counts_are_the_picture.ensures b m.homes now asks c.note_asked.new.counts many noted) in
    let size = sym c.counts_of-wires.result.ok.0 in
    let whole_list = came_back c.counts_of-wires.result.len c.note_asked.new.counts c.counts_of-wires.result.items (c.note_asked.ensures.many ∙ ap length c.deref_mut.ensures.value ∙ size) size in
    let is_run = run.run b m.homes m.count m.nodes crossings begun now all m.heads m.taken ss ds m.fit m.seats m.unread m.bodies_are r.went r.keep are r.joined in
    let left_by = run.nodes b m.homes m.count m.nodes crossings begun now all back.0 back.1.0 m.bodies_are r.went r.keep back.1.1 in
    let at = kept g.S.Source.state g.D.Drain.state g.B.PlugBook.lists b ss ds m.nodes m.seats (sym m.bodies_are.graph.each_node) account back.0 left_by is_run c.args.remains.board m.at_switches in
    let settled = c.settle.ensures (map (λ (n : blue.Node). n.kind) b.nodes.items) (map node_seat back.0) m.board_is at (left_seats ws account.near back.0 c.join_ends-end.result left) in
    let spent = c.bodies_spent_what_was_sent.ensures b m.homes m.count m.nodes crossings begun now all m.bodies_are r.went r.keep are r.joined in
    let most = run.most b m.homes m.count m.nodes crossings begun now all m.bodies_are r.went r.keep are r.joined in
    leaves g.S.Source.state g.D.Drain.state g.B.PlugBook.lists b ss ds m.nodes m.seats (sym m.bodies_are.graph.each_node) account back.0 left_by is_run budget
    (record { end = record c.join_ends-end.result { seats = c.new.result }; wires = with_items c.counts_of-wires.result c.note_asked.new.counts; used = c.args.used; at_rest = c.args.at_rest; ran = c.args.ran }) c.join_ends-end.result account.near
    (λ rest. run.still b m.homes m.count m.nodes crossings begun now all m.bodies_are r.went r.keep are (r.rest rest))
    m.rooms (λ rest k f at. none_late_in g.S.Source.state g.D.Drain.state g.B.PlugBook.lists now crossings r.keep (r.rest rest) _ _ f at)
    (cancels_cross g.S.Source.state g.D.Drain.state g.B.PlugBook.lists b m.homes m.count m.nodes crossings begun now m.bodies_are r.went r.keep r.joined all) left refl settled (whole_list ∙ counts) r.within r.more (omega (arith, spent, r.used_is)) (omega (arith, most, r.used_is))

pub settle-requires : goal.settle-requires
settle-requires g c =
    let b = c.requires.0 in
    let begun = c.requires.1.1.1.0 in
    let r = c.requires.1.1.1.1.1 in
    let m = r.began in
    let ws = blueprint_wires b in
    let now = c.args.bodies.items in
    let crossings = c.args.crossings.now in
    let lanes = c.args.remains.lanes.items in
    let asks = c.asked_of-all.result.items in
    let all = lane_demand lanes asks in
    let account = account_in m.homes ws now all in
    let run = c.bodies_leave_a_run.ensures in
    let back = run.back b m.homes m.count m.nodes crossings begun now m.bodies_are r.went r.keep in
    let law = c.bodies_leave_what_their_nodes_do.ensures in
    let ends = law.ends b m.homes m.count m.nodes crossings begun now all back.0 back.1.0 c.finish_all-ends.result.items m.bodies_are m.numbered r.went r.keep back.1.1 c.finish_all-ends.ensures in
    let homes = law.homes b m.homes m.count m.nodes crossings begun now all back.0 back.1.0 c.requires.1.0 c.requires.1.1.0 c.args.remains.homes m.seats m.bodies_are r.went r.keep back.1.1 m.homes_are in
    let whole = c.join_ends-end.ensures (whole_of m.homes ws m.nodes account.near back.0 back.1.0) ends homes in
    let left = law.left b m.homes m.count m.nodes crossings begun now all back.0 back.1.0 c.requires.1.0 c.requires.1.1.0 c.join_ends-end.result m.seats m.bodies_are r.went r.keep back.1.1 whole in
    let stay = c.ends_stay_at_their_crossings.ensures in
    let told = c.told_asks_are_those_of_lanes.ensures in
    let asked = subst (λ bodies. AreAsked bodies crossings asks) c.deref.ensures.value c.asked_of-all.ensures in
    let are = told.are lanes crossings now asks m.many m.rise (stay.aligned lanes crossings begun now m.aligned (stay.went begun now r.went)) asked in
    let is_run = run.run b m.homes m.count m.nodes crossings begun now all m.heads m.taken c.requires.1.0 c.requires.1.1.0 m.fit m.seats m.unread m.bodies_are r.went r.keep are r.joined in
    let left_by = run.nodes b m.homes m.count m.nodes crossings begun now all back.0 back.1.0 m.bodies_are r.went r.keep back.1.1 in
    let at = kept g.S.Source.state g.D.Drain.state g.B.PlugBook.lists b c.requires.1.0 c.requires.1.1.0 m.nodes m.seats (sym m.bodies_are.graph.each_node) account back.0 left_by is_run c.args.remains.board m.at_switches in
    (map (λ (n : blue.Node). n.kind) b.nodes.items, (map node_seat back.0, (m.board_is, (at, left_seats ws account.near back.0 c.join_ends-end.result left))))
