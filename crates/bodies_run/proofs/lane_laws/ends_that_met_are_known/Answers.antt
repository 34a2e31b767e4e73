use Rattle.bodies_run.proofs.Meeting.{are_met}
use Rattle.bodies_run.proofs.lane_laws.ends_that_met_are_known.Goals as goal

pub returns : goal.returns
returns c = are_met
