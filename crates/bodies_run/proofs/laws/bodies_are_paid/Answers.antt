use Rattle.bodies_run.proofs.Paying.{costs, paid}
use Rattle.bodies_run.proofs.laws.bodies_are_paid.Goals as goal

pub returns : goal.returns
returns g c = record {
  costs = λ graph homes count ws nodes crossings begun now all m goes keep asked joined. costs g.S.Source.state g.D.Drain.state g.B.PlugBook.lists graph homes count ws nodes crossings begun now m goes keep all asked joined;
  paid = λ graph homes count ws nodes crossings begun now all m goes keep asked joined. paid g.S.Source.state g.D.Drain.state g.B.PlugBook.lists graph homes count ws nodes crossings begun now m goes keep all asked joined;
}
