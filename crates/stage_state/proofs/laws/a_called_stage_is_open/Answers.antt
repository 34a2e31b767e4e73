use Rattle.stage_state.proofs.Handling.{called_open}
use Rattle.stage_state.proofs.laws.a_called_stage_is_open.Goals as goal

pub returns : goal.returns
returns c = called_open
