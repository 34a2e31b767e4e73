use Rattle.stage_in.proofs.Nodes.{called_open}
use Rattle.stage_in.proofs.laws.a_called_stage_is_open.Goals as goal

pub returns : goal.returns
returns c = called_open
