use Rattle.std.proofs.Common.{refl, sym, ◌∙◌, subst}
use Rattle.step_work.specs.Slots.{MayCall, SlotHolds}
use Rattle.stage_sub.proofs.Groups.{may_at, got, is_there}
use Rattle.stage_sub.proofs.group.feed_at.Goals as goal

pub feed_slot-requires-after_bounds : goal.feed_slot-requires-after_bounds
feed_slot-requires-after_bounds g c =
    let at = is_there c.args.slots.now.items c.args.i c.index_mut.result.now c.requires.within in
    λ κs b. subst (MayCall g.C.Chain.rest g.C.Chain.is_open) (sym c.index_mut.ensures.value) (may_at g.C.Chain.rest g.C.Chain.is_open c.args.slots.now.items c.args.i _ c.requires.may at)

pub returns-clause-fed : goal.returns-clause-fed
returns-clause-fed g c =
    (c.feed_slot.new.slot, (refl, λ f took d e h. c.in_ok-why.ensures.fed f took (subst (λ k. SlotHolds g.C.Chain.rest g.C.Chain.is_open f k took) (sym (c.index_mut.ensures.value ∙ got c.args.slots.now.items c.args.i c.index_mut.result.now d e)) h)))
