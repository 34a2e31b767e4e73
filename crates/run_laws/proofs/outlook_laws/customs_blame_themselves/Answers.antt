use Rattle.run_laws.proofs.Blaming.{customs_lead}
use Rattle.run_laws.proofs.outlook_laws.customs_blame_themselves.Goals as goal

pub returns : goal.returns
returns g c = λ graph w rank a is_run tells ranked. customs_lead g.S.Source.state g.D.Drain.state graph w a is_run tells rank ranked
