use Rattle.std.proofs.Common.{subst}
use Rattle.stage_sub.specs.Leds.{LedServed}
use Rattle.stage_sub.proofs.logic.SubLogic.go_on.Goals as goal

pub returns-clause-goes : goal.returns-clause-goes
returns-clause-goes g c = record { mid = c.serve.new.self; between = c.serve.new.acts.items; serves = c.serve.ensures.serves; settles = c.settle.ensures.settles }
