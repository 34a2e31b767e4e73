use Rattle.stage_dropping.proofs.RecoverNodes.{plan_begins}
use Rattle.stage_dropping.proofs.recover_laws.moves_begin_the_plan.Goals as goal

pub returns : goal.returns
returns c = plan_begins
