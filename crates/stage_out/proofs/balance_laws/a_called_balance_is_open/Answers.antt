use Rattle.stage_out.proofs.BalanceNodes.{called_live, called_fits}
use Rattle.stage_out.proofs.balance_laws.a_called_balance_is_open.Goals as goal

pub returns-clause-opens : goal.returns-clause-opens
returns-clause-opens c = called_live

pub returns-clause-room : goal.returns-clause-room
returns-clause-room c = called_fits
