use Rattle.stage_core.proofs.Steps.{residual_at}
use Rattle.stage_core.proofs.laws.a_turn_keeps_what_is_given.Goals as goal

pub returns : goal.returns
returns c = λ m. residual_at m
