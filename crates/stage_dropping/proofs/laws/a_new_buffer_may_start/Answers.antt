use Rattle.stage_dropping.proofs.DropNodes.{new_may_start}
use Rattle.stage_dropping.proofs.laws.a_new_buffer_may_start.Goals as goal

pub returns : goal.returns
returns c = new_may_start
