use Rattle.stage_out.proofs.OutRests.{stage_rests}
use Rattle.stage_out.proofs.laws.a_stage_rests.Goals as goal

pub returns : goal.returns
returns c = stage_rests
