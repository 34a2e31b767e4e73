use Rattle.stage_out.proofs.BalanceNodes.{has_cause}
use Rattle.stage_out.proofs.balance_laws.a_misfit_has_its_cause.Goals as goal

pub returns : goal.returns
returns c = λ o first now v took gave stuck law a. has_cause first now v took gave law stuck o a
