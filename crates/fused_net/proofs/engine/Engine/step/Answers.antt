-- The goals of `engine::Engine::step` that the search leaves.
use Rattle.std.proofs.Common.{inr, refl, subst}
use Rattle.fused_net.specs.declared.hand.Hand.{Hand}
use Rattle.fused_net.specs.Hand.{done_in_hand}
use Rattle.fused_net.specs.Laws.{Settled}
use Rattle.fused_net.proofs.Events.{steps_taken}
use Rattle.fused_net.proofs.Still.{untouched_next}
use Rattle.fused_net.proofs.Taking.{taken_settled}
use Rattle.fused_net.proofs.engine.Engine.step.Goals as goal

pub handle-requires-clause-laws : goal.handle-requires-clause-laws
handle-requires-clause-laws g c = taken_settled g.S.Stage.port_state g.S.Stage.law g.S.Stage.asking g.S.Stage.moves _ _ c.in-Some.w c.in-Some.ensures.some.1.1 (subst (λ (h : Hand). Settled g.S.Stage.port_state g.S.Stage.law g.S.Stage.asking g.S.Stage.moves (done_in_hand h c.args.e.now c.args.self.now)) c.in-Empty.is c.requires.laws)

pub returns-in_ok-answer-in-Empty-clause-steps : goal.returns-in_ok-answer-in-Empty-clause-steps
returns-in_ok-answer-in-Empty-clause-steps g c = rw (c.in-Empty.is, c.came_of.ensures) (steps_taken g.S.Stage.port_state g.S.Stage.law g.S.Stage.asking g.S.Stage.moves g.S.Stage.gone g.S.Stage.passive _ _ _ c.in-Some.w 1 c.in-Some.ensures.some.1.1 c.in_ok-answer-in-Empty.ensures.answered.step)

pub returns-in_ok-answer-in-Empty-clause-untouched : goal.returns-in_ok-answer-in-Empty-clause-untouched
returns-in_ok-answer-in-Empty-clause-untouched g c = rw (c.in-Empty.is, c.came_of.ensures) (untouched_next g.S.Stage.passive _ _ c.in-Some.w _ _ _ refl c.in-Some.ensures.some.1.1 c.in_ok-answer-in-Empty.ensures.answered.untouched)

pub returns-in_ok-answer-in-Down-clause-untouched : goal.returns-in_ok-answer-in-Down-clause-untouched
returns-in_ok-answer-in-Down-clause-untouched g c = rw (c.in-Down.is, c.came_of-in-Down.ensures) (untouched_next g.S.Stage.passive _ _ c.in-Down.w _ _ _ refl (record { is = refl; stood = inr refl }) c.in_ok-answer-in-Down.ensures.answered.untouched)

pub returns-in_ok-answer-in-Up-clause-untouched : goal.returns-in_ok-answer-in-Up-clause-untouched
returns-in_ok-answer-in-Up-clause-untouched g c = rw (c.in-Up.is, c.came_of-in-Up.ensures) (untouched_next g.S.Stage.passive _ _ c.in-Up.w _ _ _ refl (record { is = refl; stood = inr refl }) c.in_ok-answer-in-Up.ensures.answered.untouched)
