use Rattle.std.proofs.Common.{ap, sym, ◌∙◌}
use Rattle.stage_sub.specs.Leds.{Led}
use Rattle.stage_sub.proofs.LedHandlers.{unserved}
use Rattle.stage_sub.proofs.logic.SubLogic.serve.Goals as goal

pub give_of-requires-clause-asked : goal.give_of-requires-clause-asked
give_of-requires-clause-asked g c = λ lts lives. ap (λ (l : Led _). l.logic.asked) (sym c.self.view_is) ∙ (rw (sym c.deref.ensures) (sym c.is_asked.ensures)) ∙ c.if-is_asked.true
