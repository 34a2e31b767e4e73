use Rattle.std.proofs.Common.{ap, sym, ◌∙◌, subst, refl}
use Rattle.port_core.specs.Call.{arrives}
use Rattle.elem_core.specs.declared.item.Item.TheVariants as item
use Rattle.stage_sub.specs.Leds.{Led, TookUp}
use Rattle.stage_sub.proofs.LedIntake.{elem_calm}
use Rattle.stage_sub.proofs.LedHandlers.{kept_is, pushed_so}
use Rattle.stage_sub.proofs.logic.SubLogic.push_by.Goals as goal

pub take_up-requires-clause-follows : goal.take_up-requires-clause-follows
take_up-requires-clause-follows g c = λ lts lives e. c.requires.follows (sym (ap (λ (l : Led _). l.left) c.self.view_is) ∙ e)

pub returns-clause-ports : goal.returns-clause-ports
returns-clause-ports g c = (pushed_so g.C.Chain.whole g.C.Chain.rest g.C.Chain.is_open c.args.self.now c.self.inside.state.value c.take_in.new.self c.self.inside.log c.take_up.new.self c.args.e c.in_ok-taken.taken c.in_ok-blame.blame c.take_up.new.acts.items (record { follows = c.requires.follows; calm = elem_calm c.args.self.now c.args.e c.requires.follows c.requires.meets; phase_is = c.requires.open }) c.requires.meets c.self.view_is (rw (sym c.deref.ensures) c.in_ok-taken.ensures) (rw (sym c.deref_mut.ensures.value) c.in_ok-blame.ensures.stays) (rw (sym c.deref_mut.ensures.value) c.in_ok-blame.ensures.takes) c.take_up.ensures.took).ports

pub returns-clause-gives : goal.returns-clause-gives
returns-clause-gives g c = (pushed_so g.C.Chain.whole g.C.Chain.rest g.C.Chain.is_open c.args.self.now c.self.inside.state.value c.take_in.new.self c.self.inside.log c.take_up.new.self c.args.e c.in_ok-taken.taken c.in_ok-blame.blame c.take_up.new.acts.items (record { follows = c.requires.follows; calm = elem_calm c.args.self.now c.args.e c.requires.follows c.requires.meets; phase_is = c.requires.open }) c.requires.meets c.self.view_is (rw (sym c.deref.ensures) c.in_ok-taken.ensures) (rw (sym c.deref_mut.ensures.value) c.in_ok-blame.ensures.stays) (rw (sym c.deref_mut.ensures.value) c.in_ok-blame.ensures.takes) c.take_up.ensures.took).gives
