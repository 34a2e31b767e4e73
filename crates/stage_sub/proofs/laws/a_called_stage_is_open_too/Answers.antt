use Rattle.stage_sub.proofs.LedNodes.{called_open}
use Rattle.stage_sub.proofs.laws.a_called_stage_is_open_too.Goals as goal

pub returns : goal.returns
returns g c = λ l call v n may r. called_open l call v n may r
