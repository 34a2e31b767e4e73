use Rattle.run_laws.proofs.CustomRows.{custom_sent, custom_typed}
use Rattle.run_laws.proofs.OutlookAgreeing.{given_of}
use Rattle.run_laws.proofs.AgreeingSources.{source_texts}
use Rattle.run_laws.proofs.outlook_laws.every_node_gives_of_what_came.Goals as goal

pub returns : goal.returns
returns g c = record {
  lines = λ graph a run. source_texts g.S.Source.state g.D.Drain.state g.B.PlugBook.lists graph a run;
  customs = λ graph a run. custom_sent g.S.Source.state g.D.Drain.state g.B.PlugBook.lists graph a run;
  typed = λ graph a run. custom_typed g.S.Source.state g.D.Drain.state g.B.PlugBook.lists graph a run;
  others = λ graph w a run chose. given_of g.S.Source.state g.D.Drain.state graph w a run chose;
}
