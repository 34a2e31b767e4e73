use Rattle.stage_out.proofs.BalanceNodes.{started, handled}
use Rattle.stage_out.proofs.balance_laws.calls_keep_the_law.Goals as goal

pub returns-clause-starts : goal.returns-clause-starts
returns-clause-starts c = started

pub returns-clause-handles : goal.returns-clause-handles
returns-clause-handles c = handled
