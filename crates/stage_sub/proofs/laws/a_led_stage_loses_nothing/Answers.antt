use Rattle.stage_sub.specs.KeptSubs.{opening_of}
use Rattle.stage_sub.proofs.LedStanding.{led_count}
use Rattle.stage_sub.proofs.laws.a_led_stage_loses_nothing.Goals as goal

pub returns : goal.returns
returns g c = λ f yields start first now w l e calm op k. led_count yields (opening_of first.logic.how) start g.C.Chain.rest g.C.Chain.is_open f now w l e calm op k
