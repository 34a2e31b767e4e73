use Rattle.run_laws.proofs.Lanes.{rests_in, rests_out}
use Rattle.run_laws.proofs.account_laws.a_quiet_lane_rests.Goals as goal

pub returns-clause-input : goal.returns-clause-input
returns-clause-input c = rests_in

pub returns-clause-output : goal.returns-clause-output
returns-clause-output c = rests_out
