use Rattle.stage_in.proofs.Nodes.{called_fits}
use Rattle.stage_in.proofs.laws.a_call_wants_little_room.Goals as goal

pub returns : goal.returns
returns c = called_fits
