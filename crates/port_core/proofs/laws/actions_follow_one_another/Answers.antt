-- The goals of `laws::actions_follow_one_another`.
use Rattle.port_core.proofs.Views.{acted_append, allowed_append, allowed_parts, given_append, ins_stay, outs_stay}
use Rattle.port_core.proofs.laws.actions_follow_one_another.Goals as goal

pub returns-clause-allowed : goal.returns-clause-allowed
returns-clause-allowed c = λ v a b. (allowed_parts v a b, λ h. allowed_append v a b h.0 h.1)

pub returns-clause-acted : goal.returns-clause-acted
returns-clause-acted c = acted_append

pub returns-clause-given : goal.returns-clause-given
returns-clause-given c = given_append

pub returns-clause-inputs : goal.returns-clause-inputs
returns-clause-inputs c = ins_stay

pub returns-clause-outputs : goal.returns-clause-outputs
returns-clause-outputs c = outs_stay
