use Rattle.run_laws.proofs.Joining.{all_still}
use Rattle.run_laws.proofs.account_laws.nets_rest.Goals as goal

pub returns : goal.returns
returns g c = λ graph nets s asked covers settled empty rest. all_still g.S.Stage.port_state g.S.Stage.law g.S.Stage.asking g.S.Stage.moves graph nets s covers asked settled empty rest
