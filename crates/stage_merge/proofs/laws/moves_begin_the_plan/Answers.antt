use Rattle.stage_merge.proofs.MergeNodes.{plan_begins}
use Rattle.stage_merge.proofs.laws.moves_begin_the_plan.Goals as goal

pub returns : goal.returns
returns c = plan_begins
