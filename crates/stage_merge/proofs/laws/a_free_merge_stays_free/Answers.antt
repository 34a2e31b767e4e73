use Rattle.stage_merge.proofs.MergeNodes.{stays_free}
use Rattle.stage_merge.proofs.laws.a_free_merge_stays_free.Goals as goal

pub returns : goal.returns
returns c = stays_free
