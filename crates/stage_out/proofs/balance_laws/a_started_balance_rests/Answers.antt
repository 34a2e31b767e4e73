use Rattle.stage_out.proofs.BalanceNodes.{logic_rests}
use Rattle.stage_out.proofs.balance_laws.a_started_balance_rests.Goals as goal

pub returns : goal.returns
returns c = logic_rests
