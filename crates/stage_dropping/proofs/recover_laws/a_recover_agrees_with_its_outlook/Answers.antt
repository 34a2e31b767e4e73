use Rattle.stage_dropping.proofs.RecoverNodes.{fits, agrees}
use Rattle.stage_dropping.proofs.recover_laws.a_recover_agrees_with_its_outlook.Goals as goal

pub returns-clause-fits : goal.returns-clause-fits
returns-clause-fits c = λ is first now v took gave law a. fits first now v took gave law is a

pub returns-clause-agrees : goal.returns-clause-agrees
returns-clause-agrees c = λ is first now v took gave law a. agrees first now v took gave law is a
