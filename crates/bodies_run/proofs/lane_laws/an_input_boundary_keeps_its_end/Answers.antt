use Rattle.bodies_run.proofs.Meeting.{boundary_keeps}
use Rattle.bodies_run.proofs.lane_laws.an_input_boundary_keeps_its_end.Goals as goal

pub returns : goal.returns
returns c = boundary_keeps
