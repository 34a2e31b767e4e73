use Rattle.run_laws.proofs.Untold.{sink_wrote}
use Rattle.run_laws.proofs.outlook_laws.every_sink_writes.Goals as goal

pub returns : goal.returns
returns g c = λ graph a is_run. sink_wrote g.S.Source.state g.D.Drain.state g.B.PlugBook.lists graph a is_run
