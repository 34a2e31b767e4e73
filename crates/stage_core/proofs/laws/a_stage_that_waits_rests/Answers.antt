use Rattle.stage_core.proofs.OwnRows.{waiting_rests}
use Rattle.stage_core.proofs.laws.a_stage_that_waits_rests.Goals as goal

pub returns : goal.returns
returns c = λ m start holds. waiting_rests m start holds
