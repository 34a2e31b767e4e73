use Rattle.std.proofs.Common.{ap, sym, ◌∙◌, subst, refl}
use Rattle.port_core.specs.Call.{pulls}
use Rattle.stage_sub.specs.Leds.{Led, LedGoesOn, TookUp, EndedUp}
use Rattle.stage_sub.proofs.LedCalls.{finds, goes_on_so}
use Rattle.stage_sub.proofs.LedIntake.{asked_enters, input_fails, output_left, stays_still}
use Rattle.stage_sub.proofs.LedHandlers.{beside, asked_is, closed_is}
use Rattle.stage_sub.proofs.logic.SubLogic.pull_by.Goals as goal

pub returns-then-not-is_stuck-clause-ports : goal.returns-then-not-is_stuck-clause-ports
returns-then-not-is_stuck-clause-ports g c = (goes_on_so g.C.Chain.whole g.C.Chain.rest g.C.Chain.is_open (pulls 0) c.args.self.now _ c.go_on.new.self c.go_on.new.acts.items (record { follows = c.requires.follows; calm = sym (ap (λ (l : Led _). l.stuck) c.self.view_is) ∙ sym c.is_stuck.ensures ∙ c.if-not-is_stuck.true; phase_is = c.requires.open }) (finds (pulls 0) c.args.self.now (record { follows = c.requires.follows; calm = sym (ap (λ (l : Led _). l.stuck) c.self.view_is) ∙ sym c.is_stuck.ensures ∙ c.if-not-is_stuck.true; phase_is = c.requires.open }) c.requires.meets).kept (asked_enters g.C.Chain.whole g.C.Chain.rest g.C.Chain.is_open c.args.self.now (record { follows = c.requires.follows; calm = sym (ap (λ (l : Led _). l.stuck) c.self.view_is) ∙ sym c.is_stuck.ensures ∙ c.if-not-is_stuck.true; phase_is = c.requires.open }) (finds (pulls 0) c.args.self.now (record { follows = c.requires.follows; calm = sym (ap (λ (l : Led _). l.stuck) c.self.view_is) ∙ sym c.is_stuck.ensures ∙ c.if-not-is_stuck.true; phase_is = c.requires.open }) c.requires.meets)) (subst (λ (l : Led _). LedGoesOn l c.go_on.new.self c.go_on.new.acts.items) (asked_is c.args.self.now c.self.inside.state.value c.want.new.self c.self.inside.log c.self.view_is (rw (sym c.deref_mut.ensures.value) c.want.ensures)) c.go_on.ensures.goes)).ports

pub returns-else-not-is_stuck-clause-ports : goal.returns-else-not-is_stuck-clause-ports
returns-else-not-is_stuck-clause-ports g c = (stays_still g.C.Chain.whole g.C.Chain.rest g.C.Chain.is_open (pulls 0) c.args.self.now c.args.acts.now.items c.requires.follows (sym (ap (λ (l : Led _). l.stuck) c.self.view_is) ∙ sym c.is_stuck.ensures ∙ c.if-not-is_stuck.false) c.requires.open c.requires.empty).ports

pub returns-then-not-is_stuck-clause-gives : goal.returns-then-not-is_stuck-clause-gives
returns-then-not-is_stuck-clause-gives g c = (goes_on_so g.C.Chain.whole g.C.Chain.rest g.C.Chain.is_open (pulls 0) c.args.self.now _ c.go_on.new.self c.go_on.new.acts.items (record { follows = c.requires.follows; calm = sym (ap (λ (l : Led _). l.stuck) c.self.view_is) ∙ sym c.is_stuck.ensures ∙ c.if-not-is_stuck.true; phase_is = c.requires.open }) (finds (pulls 0) c.args.self.now (record { follows = c.requires.follows; calm = sym (ap (λ (l : Led _). l.stuck) c.self.view_is) ∙ sym c.is_stuck.ensures ∙ c.if-not-is_stuck.true; phase_is = c.requires.open }) c.requires.meets).kept (asked_enters g.C.Chain.whole g.C.Chain.rest g.C.Chain.is_open c.args.self.now (record { follows = c.requires.follows; calm = sym (ap (λ (l : Led _). l.stuck) c.self.view_is) ∙ sym c.is_stuck.ensures ∙ c.if-not-is_stuck.true; phase_is = c.requires.open }) (finds (pulls 0) c.args.self.now (record { follows = c.requires.follows; calm = sym (ap (λ (l : Led _). l.stuck) c.self.view_is) ∙ sym c.is_stuck.ensures ∙ c.if-not-is_stuck.true; phase_is = c.requires.open }) c.requires.meets)) (subst (λ (l : Led _). LedGoesOn l c.go_on.new.self c.go_on.new.acts.items) (asked_is c.args.self.now c.self.inside.state.value c.want.new.self c.self.inside.log c.self.view_is (rw (sym c.deref_mut.ensures.value) c.want.ensures)) c.go_on.ensures.goes)).gives

pub returns-else-not-is_stuck-clause-gives : goal.returns-else-not-is_stuck-clause-gives
returns-else-not-is_stuck-clause-gives g c = (stays_still g.C.Chain.whole g.C.Chain.rest g.C.Chain.is_open (pulls 0) c.args.self.now c.args.acts.now.items c.requires.follows (sym (ap (λ (l : Led _). l.stuck) c.self.view_is) ∙ sym c.is_stuck.ensures ∙ c.if-not-is_stuck.false) c.requires.open c.requires.empty).gives
