use Rattle.run_laws.proofs.AgreeingSinks.{sink_lines, sink_sent, sink_rests}
use Rattle.run_laws.proofs.outlook_laws.every_sink_counts_its_lines.Goals as goal

pub returns : goal.returns
returns g c = record {
  lines = λ graph a is_run. sink_lines g.S.Source.state g.D.Drain.state g.B.PlugBook.lists graph a is_run;
  sent = λ graph a is_run. sink_sent g.S.Source.state g.D.Drain.state g.B.PlugBook.lists graph a is_run;
  rest = λ graph a is_run. sink_rests g.S.Source.state g.D.Drain.state g.B.PlugBook.lists graph a is_run;
}
