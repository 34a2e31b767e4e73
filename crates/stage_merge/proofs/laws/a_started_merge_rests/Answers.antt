use Rattle.stage_merge.proofs.MergeNodes.{logic_rests}
use Rattle.stage_merge.proofs.laws.a_started_merge_rests.Goals as goal

pub returns : goal.returns
returns c = logic_rests
