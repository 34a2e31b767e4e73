use Rattle.run_laws.proofs.Lanes.{brings}
use Rattle.run_laws.proofs.account_laws.a_lane_brings_what_was_sent.Goals as goal

pub returns : goal.returns
returns c = brings
