use Rattle.run_laws.proofs.AgreeingSinks.{sink_there, every_sink_took, every_sink_tells, ignorer_there, every_ignorer_tells}
use Rattle.run_laws.proofs.OutlookAgreeing.{every_input_of}
use Rattle.run_laws.proofs.outlook_laws.every_sink_agrees.Goals as goal

pub returns : goal.returns
returns g c = record {
  there = λ graph a is_run. sink_there g.S.Source.state g.D.Drain.state g.B.PlugBook.lists graph a is_run;
  took = λ graph w rank a is_run tells ranked. every_sink_took g.S.Source.state g.D.Drain.state w.book graph a is_run w (every_input_of g.S.Source.state g.D.Drain.state graph w a is_run tells rank ranked);
  tells = λ graph w rank a is_run tells ranked. every_sink_tells g.S.Source.state g.D.Drain.state w.book graph a is_run w (every_input_of g.S.Source.state g.D.Drain.state graph w a is_run tells rank ranked);
  ignorer = λ graph a is_run. ignorer_there g.S.Source.state g.D.Drain.state g.B.PlugBook.lists graph a is_run;
  ignores = λ graph w rank a is_run tells ranked. every_ignorer_tells g.S.Source.state g.D.Drain.state w.book graph a is_run w (every_input_of g.S.Source.state g.D.Drain.state graph w a is_run tells rank ranked);
}
