use Rattle.stage_out.proofs.BalanceNodes.{moves_fit, output_agrees}
use Rattle.stage_out.proofs.balance_laws.a_balance_agrees_with_its_outlooks.Goals as goal

pub returns-clause-fits : goal.returns-clause-fits
returns-clause-fits c = λ is first now v took gave law h. moves_fit first now v took gave law is h

pub returns-clause-agrees : goal.returns-clause-agrees
returns-clause-agrees c = λ g w node outputs d is first now v took gave same law h j. output_agrees first now v took gave law is h g w node outputs d j same
