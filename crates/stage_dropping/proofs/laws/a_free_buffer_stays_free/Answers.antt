use Rattle.stage_dropping.proofs.DropNodes.{stays_free}
use Rattle.stage_dropping.proofs.laws.a_free_buffer_stays_free.Goals as goal

pub returns : goal.returns
returns c = stays_free
