use Rattle.run_laws.proofs.OutlookAgreeing.{every_wire_of}
use Rattle.run_laws.proofs.outlook_laws.every_wire_agrees.Goals as goal

pub returns : goal.returns
returns g c = λ graph w rank a is_run tells ranked. every_wire_of g.S.Source.state g.D.Drain.state graph w a is_run tells rank ranked
