use Rattle.blue_check.specs.Wires.{blueprint_wires}
use Rattle.materializer.specs.Graphs.{graph_of}
use Rattle.bodies_run.proofs.Running.{bodies_run, bodies_back, bodies_left, bodies_still}
use Rattle.bodies_run.proofs.Paying.{paid}
use Rattle.bodies_run.proofs.laws.bodies_leave_a_run.Goals as goal

pub returns : goal.returns
returns g c = record {
  run = λ b homes count nodes crossings begun now all plugs taken ss ds fit seats given m goes keep asked joined. bodies_run g.S.Source.state g.D.Drain.state g.B.PlugBook.lists b homes count nodes crossings begun now m goes keep all asked joined plugs taken ss ds fit seats given;
  back = λ b homes count nodes crossings begun now m goes keep. bodies_back g.S.Source.state g.D.Drain.state g.B.PlugBook.lists b homes count nodes crossings begun now m goes keep;
  nodes = λ b homes count nodes crossings begun now all last ends m goes keep r. bodies_left g.S.Source.state g.D.Drain.state g.B.PlugBook.lists b homes count nodes crossings begun now m goes keep all last ends r;
  still = λ b homes count nodes crossings begun now all m goes keep asked rest. bodies_still g.S.Source.state g.D.Drain.state g.B.PlugBook.lists b homes count nodes crossings begun now m goes keep all asked rest;
  most = λ b homes count nodes crossings begun now all m goes keep asked joined. paid g.S.Source.state g.D.Drain.state g.B.PlugBook.lists (graph_of b) homes count (blueprint_wires b) nodes crossings begun now m goes keep all asked joined;
}
