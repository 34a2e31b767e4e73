use Rattle.stage_core.proofs.Closings.{none_called, ports_shut}
use Rattle.stage_core.proofs.fan_laws.a_closed_stage_is_not_called.Goals as goal

pub returns-clause-uncalled : goal.returns-clause-uncalled
returns-clause-uncalled c = none_called

pub returns-clause-shut : goal.returns-clause-shut
returns-clause-shut c = ports_shut
