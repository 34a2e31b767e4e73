use Rattle.std.proofs.Common.{ap, sym, ◌∙◌, subst, refl}
use Rattle.port_core.specs.Call.{arrives}
use Rattle.elem_core.specs.declared.item.Item.TheVariants as item
use Rattle.stage_sub.specs.Leds.{Led}
use Rattle.stage_sub.proofs.LedIntake.{stays_still}
use Rattle.stage_sub.proofs.LedHandlers.{finished_so}
use Rattle.stage_sub.proofs.logic.SubLogic.finish_by.Goals as goal

pub end_up-requires-clause-follows : goal.end_up-requires-clause-follows
end_up-requires-clause-follows g c = λ lts lives e. c.requires.follows (sym (ap (λ (l : Led _). l.left) c.self.view_is) ∙ e)

pub returns-then-is_stuck-clause-ports : goal.returns-then-is_stuck-clause-ports
returns-then-is_stuck-clause-ports g c = (stays_still g.C.Chain.whole g.C.Chain.rest g.C.Chain.is_open (arrives 0 item.Ended) c.args.self.now c.args.acts.now.items c.requires.follows (sym (ap (λ (l : Led _). l.stuck) c.self.view_is) ∙ sym c.is_stuck.ensures ∙ c.if-is_stuck.true) c.requires.open c.requires.empty).ports

pub returns-clause-ports : goal.returns-clause-ports
returns-clause-ports g c = (finished_so g.C.Chain.whole g.C.Chain.rest g.C.Chain.is_open c.args.self.now c.self.inside.state.value c.end_in.new.self c.self.inside.log c.end_up.new.self c.in_ok-blame.blame c.end_up.new.acts.items (record { follows = c.requires.follows; calm = sym (ap (λ (l : Led _). l.stuck) c.self.view_is) ∙ sym c.is_stuck.ensures ∙ c.if-is_stuck.false; phase_is = c.requires.open }) c.requires.meets c.self.view_is (rw (sym c.deref_mut.ensures.value) c.in_ok-blame.ensures.stays) (rw (sym c.deref_mut.ensures.value) c.in_ok-blame.ensures.becomes) c.end_up.ensures.ended).ports

pub returns-then-is_stuck-clause-gives : goal.returns-then-is_stuck-clause-gives
returns-then-is_stuck-clause-gives g c = (stays_still g.C.Chain.whole g.C.Chain.rest g.C.Chain.is_open (arrives 0 item.Ended) c.args.self.now c.args.acts.now.items c.requires.follows (sym (ap (λ (l : Led _). l.stuck) c.self.view_is) ∙ sym c.is_stuck.ensures ∙ c.if-is_stuck.true) c.requires.open c.requires.empty).gives

pub returns-clause-gives : goal.returns-clause-gives
returns-clause-gives g c = (finished_so g.C.Chain.whole g.C.Chain.rest g.C.Chain.is_open c.args.self.now c.self.inside.state.value c.end_in.new.self c.self.inside.log c.end_up.new.self c.in_ok-blame.blame c.end_up.new.acts.items (record { follows = c.requires.follows; calm = sym (ap (λ (l : Led _). l.stuck) c.self.view_is) ∙ sym c.is_stuck.ensures ∙ c.if-is_stuck.false; phase_is = c.requires.open }) c.requires.meets c.self.view_is (rw (sym c.deref_mut.ensures.value) c.in_ok-blame.ensures.stays) (rw (sym c.deref_mut.ensures.value) c.in_ok-blame.ensures.becomes) c.end_up.ensures.ended).gives
