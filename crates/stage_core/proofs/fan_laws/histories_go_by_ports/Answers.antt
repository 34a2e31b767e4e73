use Rattle.stage_core.proofs.Histories.{brought_at, given_at}
use Rattle.stage_core.proofs.fan_laws.histories_go_by_ports.Goals as goal

pub returns-clause-brought : goal.returns-clause-brought
returns-clause-brought c = brought_at

pub returns-clause-given : goal.returns-clause-given
returns-clause-given c = given_at
