-- The goal of `outlook_laws::every_plan_is_served`.
use Rattle.run_laws.proofs.AgreeingSinks.{every_sink_tells, every_ignorer_tells}
use Rattle.run_laws.proofs.Replaying.{every_wire_serves, every_input_serves}
use Rattle.run_laws.proofs.outlook_laws.every_plan_is_served.Goals as goal

pub returns : goal.returns
returns g c = record {
  wires = λ graph w rank a is_run files serves ranked. every_wire_serves g.S.Source.state g.D.Drain.state graph w a is_run files serves rank ranked;
  tells = λ graph w rank a is_run files serves ranked. every_sink_tells g.S.Source.state g.D.Drain.state w.book graph a is_run w (every_input_serves g.S.Source.state g.D.Drain.state graph w a is_run files serves rank ranked);
  ignores = λ graph w rank a is_run files serves ranked. every_ignorer_tells g.S.Source.state g.D.Drain.state w.book graph a is_run w (every_input_serves g.S.Source.state g.D.Drain.state graph w a is_run files serves rank ranked);
}
