use Rattle.stage_merge.proofs.MergeNodes.{has_cause}
use Rattle.stage_merge.proofs.laws.a_misfit_has_its_cause.Goals as goal

pub returns : goal.returns
returns c = has_cause
