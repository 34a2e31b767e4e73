use Rattle.stage_out.proofs.OutLogics.{called_fits}
use Rattle.stage_out.proofs.laws.a_call_wants_little_room.Goals as goal

pub returns : goal.returns
returns c = called_fits
