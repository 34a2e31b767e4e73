use Rattle.stage_dropping.proofs.DropNodes.{called_open}
use Rattle.stage_dropping.proofs.laws.a_called_buffer_is_open.Goals as goal

pub returns : goal.returns
returns c = called_open
