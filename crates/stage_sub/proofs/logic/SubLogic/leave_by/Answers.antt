use Rattle.std.proofs.Common.{ap, sym, ◌∙◌, subst, refl}
use Rattle.port_core.specs.Call.{cancels}
use Rattle.stage_sub.specs.States.{cancel_acts}
use Rattle.stage_sub.specs.Leds.{Led}
use Rattle.stage_sub.proofs.LedCalls.{finds, goes_on_so}
use Rattle.stage_sub.proofs.LedIntake.{asked_enters, input_fails, output_left, stays_still}
use Rattle.stage_sub.proofs.LedHandlers.{beside, closed_is, closes_so}
use Rattle.stage_sub.proofs.logic.SubLogic.leave_by.Goals as goal

pub returns-then-not-is_stuck-clause-ports : goal.returns-then-not-is_stuck-clause-ports
returns-then-not-is_stuck-clause-ports g c = (closes_so g.C.Chain.whole g.C.Chain.rest g.C.Chain.is_open (cancels 0) c.args.self.now _ c.leave.new.acts.items (closed_is c.args.self.now c.self.inside.state.value c.leave.new.self c.self.inside.log c.self.view_is (rw (sym c.deref_mut.ensures.value) c.leave.ensures.stage)) (rw (sym c.deref_mut.ensures.value) (ap (λ a. a.items) c.leave.ensures.acts) ∙ ap (λ (l : Led _). cancel_acts l.logic.over) c.self.view_is) (output_left g.C.Chain.whole g.C.Chain.rest g.C.Chain.is_open c.args.self.now (record { follows = c.requires.follows; calm = sym (ap (λ (l : Led _). l.stuck) c.self.view_is) ∙ sym c.is_stuck.ensures ∙ c.if-not-is_stuck.true; phase_is = c.requires.open }) (finds (cancels 0) c.args.self.now (record { follows = c.requires.follows; calm = sym (ap (λ (l : Led _). l.stuck) c.self.view_is) ∙ sym c.is_stuck.ensures ∙ c.if-not-is_stuck.true; phase_is = c.requires.open }) c.requires.meets))).ports

pub returns-else-not-is_stuck-clause-ports : goal.returns-else-not-is_stuck-clause-ports
returns-else-not-is_stuck-clause-ports g c = (stays_still g.C.Chain.whole g.C.Chain.rest g.C.Chain.is_open (cancels 0) c.args.self.now c.args.acts.now.items c.requires.follows (sym (ap (λ (l : Led _). l.stuck) c.self.view_is) ∙ sym c.is_stuck.ensures ∙ c.if-not-is_stuck.false) c.requires.open c.requires.empty).ports

pub returns-then-not-is_stuck-clause-gives : goal.returns-then-not-is_stuck-clause-gives
returns-then-not-is_stuck-clause-gives g c = (closes_so g.C.Chain.whole g.C.Chain.rest g.C.Chain.is_open (cancels 0) c.args.self.now _ c.leave.new.acts.items (closed_is c.args.self.now c.self.inside.state.value c.leave.new.self c.self.inside.log c.self.view_is (rw (sym c.deref_mut.ensures.value) c.leave.ensures.stage)) (rw (sym c.deref_mut.ensures.value) (ap (λ a. a.items) c.leave.ensures.acts) ∙ ap (λ (l : Led _). cancel_acts l.logic.over) c.self.view_is) (output_left g.C.Chain.whole g.C.Chain.rest g.C.Chain.is_open c.args.self.now (record { follows = c.requires.follows; calm = sym (ap (λ (l : Led _). l.stuck) c.self.view_is) ∙ sym c.is_stuck.ensures ∙ c.if-not-is_stuck.true; phase_is = c.requires.open }) (finds (cancels 0) c.args.self.now (record { follows = c.requires.follows; calm = sym (ap (λ (l : Led _). l.stuck) c.self.view_is) ∙ sym c.is_stuck.ensures ∙ c.if-not-is_stuck.true; phase_is = c.requires.open }) c.requires.meets))).gives

pub returns-else-not-is_stuck-clause-gives : goal.returns-else-not-is_stuck-clause-gives
returns-else-not-is_stuck-clause-gives g c = (stays_still g.C.Chain.whole g.C.Chain.rest g.C.Chain.is_open (cancels 0) c.args.self.now c.args.acts.now.items c.requires.follows (sym (ap (λ (l : Led _). l.stuck) c.self.view_is) ∙ sym c.is_stuck.ensures ∙ c.if-not-is_stuck.false) c.requires.open c.requires.empty).gives
