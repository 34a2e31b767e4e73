use Rattle.std.proofs.Common.{ap, sym, ◌∙◌, subst}
use Rattle.port_core.specs.Picks.{IsMove, next_move}
use Rattle.stage_sub.specs.Leds.{Led}
use Rattle.stage_sub.proofs.Following.{moves_on}
use Rattle.stage_sub.proofs.logic.SubLogic.ask.Goals as goal

pub misfit-requires : goal.misfit-requires
misfit-requires g c = subst (λ l. IsMove (next_move l)) (sym (ap (λ (l : Led _). l.left) c.self.view_is)) (moves_on (next_move c.args.self.now.left) (sym c.may_end.ensures ∙ c.if-not-may_end.true))
