use Rattle.stage_state.proofs.Buffers.{buffer_agrees}
use Rattle.stage_state.proofs.laws.a_buffer_is_a_lane.Goals as goal

pub returns : goal.returns
returns c = buffer_agrees
