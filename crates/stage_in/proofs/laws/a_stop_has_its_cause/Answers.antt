use Rattle.stage_in.proofs.Nodes.{stops_rightly}
use Rattle.stage_in.proofs.laws.a_stop_has_its_cause.Goals as goal

pub returns : goal.returns
returns c = stops_rightly
