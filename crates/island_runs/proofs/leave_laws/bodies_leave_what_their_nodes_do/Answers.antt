use Rattle.blue_check.specs.Wires.{blueprint_wires}
use Rattle.materializer.specs.Graphs.{graph_of, around_of}
use Rattle.island_runs.proofs.Whole.{are_ends, are_homes, is_left}
use Rattle.island_runs.proofs.leave_laws.bodies_leave_what_their_nodes_do.Goals as goal

pub returns : goal.returns
returns g c = record {
  ends = λ b homes count nodes crossings begun now all last more ends m numbered goes keep r are. are_ends g.S.Source.state g.D.Drain.state g.B.PlugBook.lists (graph_of b) homes count (blueprint_wires b) nodes crossings begun now all last more m goes keep r numbered ends are;
  homes = λ b homes count nodes crossings begun now all last more ss ds e seats m goes keep r are. are_homes g.S.Source.state g.D.Drain.state g.B.PlugBook.lists (graph_of b) homes count (blueprint_wires b) nodes crossings begun now all last more m goes keep r b.nodes.items ss ds (around_of b) seats e are;
  left = λ b homes count nodes crossings begun now all last more ss ds x seats m goes keep r is. is_left g.S.Source.state g.D.Drain.state g.B.PlugBook.lists (graph_of b) homes count (blueprint_wires b) nodes crossings begun now all last more m goes keep r b.nodes.items ss ds (around_of b) seats x is;
}
