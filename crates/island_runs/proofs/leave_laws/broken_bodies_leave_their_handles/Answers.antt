use Rattle.blue_check.specs.Wires.{blueprint_wires}
use Rattle.materializer.specs.Graphs.{graph_of, around_of}
use Rattle.island_runs.proofs.Broken.{are_handles}
use Rattle.island_runs.proofs.leave_laws.broken_bodies_leave_their_handles.Goals as goal

pub returns : goal.returns
returns g c =
    λ b homes count nodes crossings begun now then last more broken later ss ds e ends seats m broke l back r ends_are are. are_handles g.S.Source.state g.D.Drain.state g.B.PlugBook.lists (graph_of b) homes count (blueprint_wires b) nodes crossings begun now then broken later m broke l r b.nodes.items ss ds (around_of b) seats e ends_are ends are
