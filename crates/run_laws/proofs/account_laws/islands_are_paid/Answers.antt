use Rattle.run_laws.proofs.Units.{all_paid}
use Rattle.run_laws.proofs.account_laws.islands_are_paid.Goals as goal

pub returns : goal.returns
returns g c = λ graph nets s asked cost islands covers settled owned lanes. all_paid g.S.Stage.port_state g.S.Stage.law g.S.Stage.asking g.S.Stage.moves graph nets s asked cost islands covers settled owned lanes
