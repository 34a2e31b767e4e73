use Rattle.stage_dropping.proofs.DropRests.{rests}
use Rattle.stage_dropping.proofs.laws.a_started_buffer_rests.Goals as goal

pub returns : goal.returns
returns c = rests
