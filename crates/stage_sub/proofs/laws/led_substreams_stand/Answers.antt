use Rattle.stage_sub.specs.KeptSubs.{opening_of}
use Rattle.stage_sub.proofs.LedStanding.{led_stands}
use Rattle.stage_sub.proofs.laws.led_substreams_stand.Goals as goal

pub returns : goal.returns
returns g c = λ f yields node first now ms w l e is k. led_stands yields node (opening_of first.logic.how) g.C.Chain.rest g.C.Chain.is_open f now ms w l e is k
