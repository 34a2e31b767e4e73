use Rattle.told_stage.proofs.Types.{handed}
use Rattle.told_stage.proofs.laws.a_lifted_plug_can_be_handed_in.Goals as goal

pub returns : goal.returns
returns c = handed
