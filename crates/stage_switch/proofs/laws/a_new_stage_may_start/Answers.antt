use Rattle.stage_switch.proofs.Rows.{new_valve, following_valve, new_trip}
use Rattle.stage_switch.proofs.laws.a_new_stage_may_start.Goals as goal

pub returns-clause-valve : goal.returns-clause-valve
returns-clause-valve c = new_valve

pub returns-clause-following : goal.returns-clause-following
returns-clause-following c = following_valve

pub returns-clause-trip : goal.returns-clause-trip
returns-clause-trip c = new_trip
