use Rattle.stage_switch.proofs.Rows.{called_valve, called_trip}
use Rattle.stage_switch.proofs.laws.a_called_stage_is_open.Goals as goal

pub returns-clause-valve : goal.returns-clause-valve
returns-clause-valve c = called_valve

pub returns-clause-trip : goal.returns-clause-trip
returns-clause-trip c = called_trip
