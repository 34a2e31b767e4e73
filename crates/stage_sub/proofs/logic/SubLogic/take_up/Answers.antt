use Rattle.std.proofs.Common.{ap, sym, ◌∙◌, subst}
use Rattle.stage_sub.specs.Leds.{Led, LedGoesOn}
use Rattle.stage_sub.specs.States.{cause_of_blame}
use Rattle.stage_sub.proofs.LedHandlers.{taken_is, failed_so}
use Rattle.stage_sub.proofs.logic.SubLogic.take_up.Goals as goal

pub go_on-requires-clause-follows : goal.go_on-requires-clause-follows
go_on-requires-clause-follows g c = λ lts lives e. c.requires.follows (sym (ap (λ (l : Led _). l.left) c.self-in-None.view_is) ∙ e)

pub returns-in-None-clause-took : goal.returns-in-None-clause-took
returns-in-None-clause-took g c = rw c.in-None.is (subst (λ (l : Led _). LedGoesOn l c.go_on.new.self c.go_on.new.acts.items) (taken_is c.args.self.now c.self-in-None.inside.state.value c.count.new.self c.self-in-None.inside.log c.args.taken c.self-in-None.view_is (rw (sym c.deref_mut-in-None.ensures.value) c.count.ensures)) c.go_on.ensures.goes)

pub returns-in-Some-clause-took : goal.returns-in-Some-clause-took
returns-in-Some-clause-took g c = rw c.in-Some.is (failed_so c.args.self.now c.self.inside.state.value c.answer.new.self c.self.inside.log c.args.taken c.in-Some.blame c.answer.new.acts.items c.self.view_is (rw (sym c.deref_mut.ensures.value) c.answer.ensures.stage) (rw (sym c.deref_mut.ensures.value) (ap (λ a. a.items) c.answer.ensures.acts)))
