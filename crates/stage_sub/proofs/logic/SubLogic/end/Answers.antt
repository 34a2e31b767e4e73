use Rattle.std.proofs.Common.{ap, sym, ◌∙◌, inl, subst}
use Rattle.port_core.specs.Picks.{IsMove, may_end, next_move}
use Rattle.stage_sub.specs.Leds.{Led, completes, stops}
use Rattle.stage_sub.proofs.Following.{moves_on}
use Rattle.stage_sub.proofs.LedHandlers.{closed_is, marked_is}
use Rattle.stage_sub.proofs.logic.SubLogic.end.Goals as goal

pub returns-then-may_end-clause-settles : goal.returns-then-may_end-clause-settles
returns-then-may_end-clause-settles g c = completes c.requires.over.0 c.requires.over.1 (sym c.may_end.ensures ∙ c.if-may_end.true) (closed_is c.args.self.now c.self.inside.state.value c.complete.new.self c.self.inside.log c.self.view_is (rw (sym c.deref_mut.ensures.value) c.complete.ensures.stage)) c.complete.ensures.acts

pub misfit-requires : goal.misfit-requires
misfit-requires g c = subst (λ l. IsMove (next_move l)) (sym (ap (λ (l : Led _). l.left) c.self.view_is)) (moves_on (next_move c.args.self.now.left) (sym c.may_end.ensures ∙ c.if-may_end.false))
