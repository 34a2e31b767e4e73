use Rattle.bodies_run.proofs.StandLanes.{out_keeps, in_keeps, out_quiet, in_quiet}
use Rattle.bodies_run.proofs.stand_laws.an_end_is_kept.Goals as goal

pub returns-clause-out : goal.returns-clause-out
returns-clause-out g c o i u s l serves = out_keeps g.S.Source.state g.D.Drain.state g.B.PlugBook.lists o i u s l serves

pub returns-clause-inp : goal.returns-clause-inp
returns-clause-inp g c b j u s l k f = in_keeps g.S.Source.state g.D.Drain.state g.B.PlugBook.lists b j u s l k f

pub returns-clause-out_quiet : goal.returns-clause-out_quiet
returns-clause-out_quiet g c o b i u s l none h serves served = out_quiet g.S.Source.state g.D.Drain.state g.B.PlugBook.lists o i u s l serves b none h served

pub returns-clause-in_quiet : goal.returns-clause-in_quiet
returns-clause-in_quiet g c b j u s l none k f fed = in_quiet g.S.Source.state g.D.Drain.state g.B.PlugBook.lists b j u s l k f none fed
