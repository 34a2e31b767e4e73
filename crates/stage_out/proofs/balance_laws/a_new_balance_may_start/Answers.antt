use Rattle.stage_out.proofs.BalanceNodes.{new_may_start}
use Rattle.stage_out.proofs.balance_laws.a_new_balance_may_start.Goals as goal

pub returns : goal.returns
returns c = new_may_start
