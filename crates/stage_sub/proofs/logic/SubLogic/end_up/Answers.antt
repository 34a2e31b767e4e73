use Rattle.std.proofs.Common.{ap, sym, ◌∙◌, subst}
use Rattle.stage_sub.specs.Leds.{Led, LedGoesOn}
use Rattle.stage_sub.proofs.LedHandlers.{over_is, refused_so}
use Rattle.stage_sub.proofs.logic.SubLogic.end_up.Goals as goal

pub go_on-requires-clause-follows : goal.go_on-requires-clause-follows
go_on-requires-clause-follows g c = λ lts lives e. c.requires.follows (sym (ap (λ (l : Led _). l.left) c.self-in-None.view_is) ∙ e)

pub returns-in-None-clause-ended : goal.returns-in-None-clause-ended
returns-in-None-clause-ended g c = rw c.in-None.is (subst (λ (l : Led _). LedGoesOn l c.go_on.new.self c.go_on.new.acts.items) (over_is c.args.self.now c.self-in-None.inside.state.value c.end_input.new.self c.self-in-None.inside.log c.self-in-None.view_is (rw (sym c.deref_mut-in-None.ensures.value) c.end_input.ensures)) c.go_on.ensures.goes)

pub returns-in-Some-clause-ended : goal.returns-in-Some-clause-ended
returns-in-Some-clause-ended g c = rw c.in-Some.is (refused_so c.args.self.now c.self.inside.state.value c.finish.new.self c.self.inside.log c.in-Some.blame c.finish.new.acts.items c.self.view_is (rw (sym c.deref_mut.ensures.value) c.finish.ensures.stage) (rw (sym c.deref_mut.ensures.value) (ap (λ a. a.items) c.finish.ensures.acts)))
