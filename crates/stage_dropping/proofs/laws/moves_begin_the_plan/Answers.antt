use Rattle.stage_dropping.proofs.DropNodes.{plan_begins}
use Rattle.stage_dropping.proofs.laws.moves_begin_the_plan.Goals as goal

pub returns : goal.returns
returns c = plan_begins
