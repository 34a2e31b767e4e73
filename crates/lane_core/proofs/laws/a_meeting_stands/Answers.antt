use Rattle.lane_core.proofs.Standing.{history_stands, waits_stand}
use Rattle.lane_core.proofs.laws.a_meeting_stands.Goals as goal

pub returns-clause-history : goal.returns-clause-history
returns-clause-history c = history_stands

pub returns-clause-waits : goal.returns-clause-waits
returns-clause-waits c = waits_stand
