use Rattle.run_laws.proofs.Costs.{paid}
use Rattle.run_laws.proofs.account_laws.a_lane_is_paid.Goals as goal

pub returns : goal.returns
returns c = paid
