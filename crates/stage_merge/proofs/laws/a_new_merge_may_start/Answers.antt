use Rattle.stage_merge.proofs.MergeNodes.{new_may_start}
use Rattle.stage_merge.proofs.laws.a_new_merge_may_start.Goals as goal

pub returns : goal.returns
returns c = new_may_start
