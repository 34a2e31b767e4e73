use Rattle.stage_sub.specs.KeptSubs.{opening_of}
use Rattle.stage_sub.proofs.LedStanding.{led_cause}
use Rattle.stage_sub.proofs.laws.a_misfit_has_its_cause.Goals as goal

pub returns : goal.returns
returns g c = λ f yields start first now ms w l e is on k. led_cause yields (opening_of first.logic.how) start g.C.Chain.rest g.C.Chain.is_open f now ms w l e is on k
