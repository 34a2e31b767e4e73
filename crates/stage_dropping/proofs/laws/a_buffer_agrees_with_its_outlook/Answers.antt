use Rattle.stage_dropping.proofs.DropNodes.{fits, agrees}
use Rattle.stage_dropping.proofs.laws.a_buffer_agrees_with_its_outlook.Goals as goal

pub returns-clause-fits : goal.returns-clause-fits
returns-clause-fits c = λ g w is first now v took gave drops same law a. fits first now v took gave law g w drops same is a

pub returns-clause-agrees : goal.returns-clause-agrees
returns-clause-agrees c = λ g w d is first now v took gave drops same law a. agrees first now v took gave law g w drops same d is a
