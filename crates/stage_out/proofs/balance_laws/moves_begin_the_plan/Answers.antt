use Rattle.stage_out.proofs.BalanceNodes.{plan_begins}
use Rattle.stage_out.proofs.balance_laws.moves_begin_the_plan.Goals as goal

pub returns : goal.returns
returns c = plan_begins
