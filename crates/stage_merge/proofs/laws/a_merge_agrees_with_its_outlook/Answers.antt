use Rattle.stage_merge.proofs.MergeNodes.{moves_fit, output_agrees, hub_agrees}
use Rattle.stage_merge.proofs.laws.a_merge_agrees_with_its_outlook.Goals as goal

pub returns-clause-fits : goal.returns-clause-fits
returns-clause-fits c = moves_fit

pub returns-clause-agrees : goal.returns-clause-agrees
returns-clause-agrees c = λ g w node inputs d is first now v took gave same way law h. output_agrees is first now v took gave law h g w node inputs d same way

pub returns-clause-hub_agrees : goal.returns-clause-hub_agrees
returns-clause-hub_agrees c = λ g w node size producers d is first now v took gave same way law h. hub_agrees is first now v took gave law h g w node size producers d same way
