use Rattle.stage_core.proofs.Whole.{law_rest, stage_stands, stage_agrees}
use Rattle.stage_core.proofs.laws.the_law_is_of_whole_histories.Goals as goal

pub returns-clause-rest : goal.returns-clause-rest
returns-clause-rest c = λ m start. law_rest m start

pub returns-clause-stands : goal.returns-clause-stands
returns-clause-stands c = λ m start. stage_stands m start

pub returns-clause-agrees : goal.returns-clause-agrees
returns-clause-agrees c = λ m start. stage_agrees m start
