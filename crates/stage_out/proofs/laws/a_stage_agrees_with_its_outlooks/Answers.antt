use Rattle.stage_out.proofs.MachineNodes.{stage_agrees}
use Rattle.stage_out.proofs.laws.a_stage_agrees_with_its_outlooks.Goals as goal

pub returns : goal.returns
returns c = stage_agrees
