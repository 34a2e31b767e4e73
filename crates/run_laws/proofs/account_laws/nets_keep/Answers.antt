use Rattle.run_laws.proofs.Joining.{all_keep}
use Rattle.run_laws.proofs.account_laws.nets_keep.Goals as goal

pub returns : goal.returns
returns g c = λ graph nets s asked joined covers settled lanes. all_keep g.S.Stage.port_state g.S.Stage.law g.S.Stage.asking g.S.Stage.moves graph nets s joined covers asked settled lanes
