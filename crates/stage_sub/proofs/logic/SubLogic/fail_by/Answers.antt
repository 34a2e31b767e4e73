use Rattle.std.proofs.Common.{ap, sym, ◌∙◌, subst, refl}
use Rattle.port_core.specs.Call.{arrives}
use Rattle.elem_core.specs.declared.item.Item.TheVariants as item
use Rattle.port_core.specs.declared.act.Act.TheVariants.{FailOut}
use Rattle.stage_sub.specs.States.{cancel_acts}
use Rattle.stage_sub.specs.Leds.{Led}
use Rattle.stage_sub.proofs.LedCalls.{finds, goes_on_so}
use Rattle.stage_sub.proofs.LedIntake.{asked_enters, input_fails, output_left, stays_still}
use Rattle.stage_sub.proofs.LedHandlers.{beside, closed_is, closes_so}
use Rattle.stage_sub.proofs.logic.SubLogic.fail_by.Goals as goal

pub returns-then-not-is_stuck-clause-ports : goal.returns-then-not-is_stuck-clause-ports
returns-then-not-is_stuck-clause-ports g c = (closes_so g.C.Chain.whole g.C.Chain.rest g.C.Chain.is_open (arrives 0 (item.Failed c.args.cause)) c.args.self.now _ c.fail.new.acts.items (closed_is c.args.self.now c.self.inside.state.value c.fail.new.self c.self.inside.log c.self.view_is (rw (sym c.deref_mut.ensures.value) c.fail.ensures.stage)) (ap (λ a. a.items) c.fail.ensures.acts) (input_fails g.C.Chain.whole g.C.Chain.rest g.C.Chain.is_open c.args.self.now (record { follows = c.requires.follows; calm = sym (ap (λ (l : Led _). l.stuck) c.self.view_is) ∙ sym c.is_stuck.ensures ∙ c.if-not-is_stuck.true; phase_is = c.requires.open }) c.args.cause (finds (arrives 0 (item.Failed c.args.cause)) c.args.self.now (record { follows = c.requires.follows; calm = sym (ap (λ (l : Led _). l.stuck) c.self.view_is) ∙ sym c.is_stuck.ensures ∙ c.if-not-is_stuck.true; phase_is = c.requires.open }) c.requires.meets))).ports

pub returns-else-not-is_stuck-clause-ports : goal.returns-else-not-is_stuck-clause-ports
returns-else-not-is_stuck-clause-ports g c = (stays_still g.C.Chain.whole g.C.Chain.rest g.C.Chain.is_open (arrives 0 (item.Failed c.args.cause)) c.args.self.now c.args.acts.now.items c.requires.follows (sym (ap (λ (l : Led _). l.stuck) c.self.view_is) ∙ sym c.is_stuck.ensures ∙ c.if-not-is_stuck.false) c.requires.open c.requires.empty).ports

pub returns-then-not-is_stuck-clause-gives : goal.returns-then-not-is_stuck-clause-gives
returns-then-not-is_stuck-clause-gives g c = (closes_so g.C.Chain.whole g.C.Chain.rest g.C.Chain.is_open (arrives 0 (item.Failed c.args.cause)) c.args.self.now _ c.fail.new.acts.items (closed_is c.args.self.now c.self.inside.state.value c.fail.new.self c.self.inside.log c.self.view_is (rw (sym c.deref_mut.ensures.value) c.fail.ensures.stage)) (ap (λ a. a.items) c.fail.ensures.acts) (input_fails g.C.Chain.whole g.C.Chain.rest g.C.Chain.is_open c.args.self.now (record { follows = c.requires.follows; calm = sym (ap (λ (l : Led _). l.stuck) c.self.view_is) ∙ sym c.is_stuck.ensures ∙ c.if-not-is_stuck.true; phase_is = c.requires.open }) c.args.cause (finds (arrives 0 (item.Failed c.args.cause)) c.args.self.now (record { follows = c.requires.follows; calm = sym (ap (λ (l : Led _). l.stuck) c.self.view_is) ∙ sym c.is_stuck.ensures ∙ c.if-not-is_stuck.true; phase_is = c.requires.open }) c.requires.meets))).gives

pub returns-else-not-is_stuck-clause-gives : goal.returns-else-not-is_stuck-clause-gives
returns-else-not-is_stuck-clause-gives g c = (stays_still g.C.Chain.whole g.C.Chain.rest g.C.Chain.is_open (arrives 0 (item.Failed c.args.cause)) c.args.self.now c.args.acts.now.items c.requires.follows (sym (ap (λ (l : Led _). l.stuck) c.self.view_is) ∙ sym c.is_stuck.ensures ∙ c.if-not-is_stuck.false) c.requires.open c.requires.empty).gives
