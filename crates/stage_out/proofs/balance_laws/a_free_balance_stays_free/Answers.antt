use Rattle.stage_out.proofs.BalanceNodes.{stays_free, stands, free_stands}
use Rattle.stage_out.proofs.balance_laws.a_free_balance_stays_free.Goals as goal

pub returns-clause-free : goal.returns-clause-free
returns-clause-free c = stays_free

pub returns-clause-whole : goal.returns-clause-whole
returns-clause-whole c = free_stands

pub returns-clause-stands : goal.returns-clause-stands
returns-clause-stands c = stands
