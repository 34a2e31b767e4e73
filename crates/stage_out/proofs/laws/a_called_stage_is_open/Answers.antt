use Rattle.stage_out.proofs.OutLogics.{called_is_live}
use Rattle.stage_out.proofs.laws.a_called_stage_is_open.Goals as goal

pub returns : goal.returns
returns c = called_is_live
