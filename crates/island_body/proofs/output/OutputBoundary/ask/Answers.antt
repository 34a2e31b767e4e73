use Rattle.std.specs.Prelude.{IsTrue}
use Rattle.std.proofs.Common.{rules, ◌≢◌}
use Rattle.port_core.specs.Decoding.{can_pull}
use Rattle.interpreter.specs.BoundaryPlaces.{IsClearAt}
use Rattle.interpreter.specs.Boundary.{cell_out, way_out}
use Rattle.island_body.proofs.BoundarySending.{ask_keeps}
use Rattle.island_body.proofs.output.OutputBoundary.ask.Goals as goal

pub returns-clause-keeps : goal.returns-clause-keeps
returns-clause-keeps g c =
    let both : IsTrue (can_pull (cell_out c.args.island.now c.args.self.now.wire).wire.conn) × IsClearAt c.args.island.now.net (way_out c.args.island.now c.args.self.now.wire) = search rules in
    let some : c.left.result ≢ 0 = search rules in
    ask_keeps c.args.self.now.lane c.args.island.now c.args.self.now.wire c.came_by_place.ensures c.requires.keeps g.S.Source.state g.D.Drain.state g.B.PlugBook.lists (c.laws.ensures c.requires.whole) _ c.left.result c.pull_by_place.ensures.after c.requires.leaves both.0 both.1 c.left.ensures some
