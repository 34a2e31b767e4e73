use Rattle.run_laws.proofs.Lanes.{stands_in, stands_out}
use Rattle.run_laws.proofs.account_laws.a_lane_stands_as_a_wire.Goals as goal

pub returns-clause-input : goal.returns-clause-input
returns-clause-input c = stands_in

pub returns-clause-output : goal.returns-clause-output
returns-clause-output c = stands_out
