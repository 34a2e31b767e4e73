use Rattle.std.specs.Prelude.{IsTrue}
use Rattle.std.proofs.Common.{rules, ◌≢◌}
use Rattle.port_core.specs.Decoding.{can_pull}
use Rattle.interpreter.specs.Boundary.{cell_out}
use Rattle.island_body.proofs.BoundarySending.{ask_keeps}
use Rattle.island_body.proofs.Serving.{waits_clear}
use Rattle.island_body.proofs.output.OutputBoundary.ask_empty.Goals as goal

pub returns-clause-keeps : goal.returns-clause-keeps
returns-clause-keeps g c =
    let lets : IsTrue (can_pull (cell_out c.args.island.now c.args.self.now.wire).wire.conn) = search rules in
    let some : c.left.result ≢ 0 = search rules in
    ask_keeps c.args.self.now.lane c.args.island.now c.args.self.now.wire c.came_by_place.ensures c.requires.keeps g.S.Source.state g.D.Drain.state g.B.PlugBook.lists (c.laws.ensures c.requires.whole) _ c.left.result c.pull_by_place.ensures.after c.requires.leaves lets (waits_clear c.args.island.now c.args.self.now.wire c.requires.none) c.left.ensures some
