use Rattle.stage_state.proofs.Rows.{keeping_rests, buffer_rests}
use Rattle.stage_state.proofs.laws.a_started_stage_rests.Goals as goal

pub returns-clause-keeps : goal.returns-clause-keeps
returns-clause-keeps c = λ m start took gave. keeping_rests m start took gave

pub returns-clause-buffers : goal.returns-clause-buffers
returns-clause-buffers c = λ n s took gave. buffer_rests n s took gave
