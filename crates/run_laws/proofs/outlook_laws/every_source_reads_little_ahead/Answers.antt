use Rattle.run_laws.proofs.AgreeingSources.{source_there, every_source}
use Rattle.run_laws.proofs.outlook_laws.every_source_reads_little_ahead.Goals as goal

pub returns : goal.returns
returns g c = record {
  there = λ graph a is_run. source_there g.S.Source.state g.D.Drain.state g.B.PlugBook.lists graph a is_run;
  reads = λ graph a is_run. every_source g.S.Source.state g.D.Drain.state g.B.PlugBook.lists graph a is_run;
}
