-- The goals of `run::give_up` that the search leaves.
use Rattle.std.proofs.Common.{sym}
use Rattle.blue_check.specs.Wires.{blueprint_wires}
use Rattle.interpreter.specs.Island.{readers_of, writers_of}
use Rattle.bodies_run.specs.Counts.{lane_demand}
use Rattle.bodies_run.specs.Leaving.{account_in}
use Rattle.island_runs.proofs.Stopping.{broken}
use Rattle.island_runs.proofs.run.give_up.Goals as goal

pub join_handles-requires-clause-ends : goal.join_handles-requires-clause-ends
join_handles-requires-clause-ends g c =
    let b = c.requires.0 in
    let h = c.requires.1.1.1.1 in
    let m = h.began in
    let now = c.args.bodies.items in
    let crossings = c.args.crossings.now in
    let then = c.broken_bodies_cover.ensures.last c.requires.1.1.1.0 now h.broke in
    let back = c.broken_bodies_leave_a_run.ensures.back b m.homes m.count m.nodes crossings c.requires.1.1.1.0 now then.0 m.bodies_are h.broke then.1 in
    let handles = c.broken_bodies_leave_their_handles.ensures b m.homes m.count m.nodes crossings c.requires.1.1.1.0 now then.0 back.0.0 back.0.1.0 back.1.0 back.1.1.0 c.requires.1.0 c.requires.1.1.0 c.args.remains.homes c.finish_all-ends.result.items m.seats m.bodies_are h.broke then.1 back.0.1.1 back.1.1.1 m.homes_are c.finish_all-ends.ensures in
    (readers_of back.1.0, (writers_of back.1.0, handles))

pub returns : goal.returns
returns g c = λ b ss ds begun h.
    let m = h.began in
    let now = c.args.bodies.items in
    let crossings = c.args.crossings.now in
    let lanes = c.args.remains.lanes.items in
    let then = c.broken_bodies_cover.ensures.last begun now h.broke in
    let law = c.broken_bodies_leave_a_run.ensures in
    let back = law.back b m.homes m.count m.nodes crossings begun now then.0 m.bodies_are h.broke then.1 in
    let handles = c.broken_bodies_leave_their_handles.ensures b m.homes m.count m.nodes crossings begun now then.0 back.0.0 back.0.1.0 back.1.0 back.1.1.0 ss ds c.args.remains.homes c.finish_all-ends.result.items m.seats m.bodies_are h.broke then.1 back.0.1.1 back.1.1.1 m.homes_are c.finish_all-ends.ensures in
    let stay = c.ends_stay_at_their_crossings.ensures in
    let have = stay.broke begun now h.broke in
    let told = c.told_asks_are_those_of_lanes.ensures in
    let all = told.some crossings now (stay.lie crossings begun now m.meet have) in
    let asked = told.are lanes crossings now all.0 m.many m.rise (stay.aligned lanes crossings begun now m.aligned have) all.1 in
    let run = law.run b m.homes m.count m.nodes crossings begun now then.0 (lane_demand lanes all.0) m.heads m.taken ss ds m.fit m.seats m.unread m.bodies_are h.broke then.1 asked h.joined in
    let left = law.nodes b m.homes m.count m.nodes crossings begun now then.0 (lane_demand lanes all.0) back.0.0 back.0.1.0 m.bodies_are h.broke then.1 back.0.1.1 in
    let kept = law.kept m.homes m.count b begun now then.0 back.0.0 back.0.1.0 back.1.0 back.1.1.0 h.broke then.1 back.0.1.1 back.1.1.1 in
    broken g.S.Source.state g.D.Drain.state g.B.PlugBook.lists b ss ds m.nodes m.seats (sym m.bodies_are.graph.each_node) (account_in m.homes (blueprint_wires b) then.0 (lane_demand lanes all.0)) back.0.0 left run c.join_handles.result back.1.0 kept (c.join_handles.ensures.readers (readers_of back.1.0) (writers_of back.1.0) handles) (c.join_handles.ensures.writers (readers_of back.1.0) (writers_of back.1.0) handles)
