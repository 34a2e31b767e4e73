use Rattle.blue_check.specs.Wires.{blueprint_wires}
use Rattle.materializer.specs.Graphs.{graph_of}
use Rattle.island_runs.proofs.Spending.{spent}
use Rattle.island_runs.proofs.leave_laws.bodies_spent_what_was_sent.Goals as goal

pub returns : goal.returns
returns g c = λ b homes count nodes crossings begun now all m goes keep asked joined. spent g.S.Source.state g.D.Drain.state g.B.PlugBook.lists (graph_of b) homes count (blueprint_wires b) nodes crossings begun now m goes keep all asked joined
