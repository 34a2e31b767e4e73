-- The goals of `ends::ends_of` that the search leaves.
use Rattle.std.proofs.Common.{◌∙◌, slice_index, ap}
use Rattle.blue_check.specs.declared.plan.LanePlan.{LanePlan}
use Rattle.island_plans.proofs.Lying.{homes_below, all_ends}
use Rattle.island_plans.proofs.lane_ends.ends_of.Goals as goal

pub share-requires-clause-below : goal.share-requires-clause-below
share-requires-clause-below c = homes_below c.args.lanes.now (λ (l : LanePlan). l.from) c.args.count c.deref.result.now (c.deref.ensures.value ∙ c.in_ok-senders.ensures) (λ n l at. (c.requires.can n l at).from_there)

pub share-requires-2-clause-below : goal.share-requires-2-clause-below
share-requires-2-clause-below c = homes_below c.args.lanes.now (λ (l : LanePlan). l.to) c.args.count c.deref-2.result.now (c.deref-2.ensures.value ∙ c.in_ok-takers.ensures) (λ n l at. (c.requires.can n l at).to_there)

pub returns : goal.returns
returns c =
    let out_ranks = c.deref-3.result.now in
    let in_ranks = c.deref-4.result.now in
    let made = c.in_ok-outs.field-0 in
    all_ends c.args.lanes.now c.args.count _ made.outs.items made.ins.items c.deref.result.now c.deref-2.result.now out_ranks in_ranks c.requires.order c.in_ok-outs.ensures (c.deref.ensures.value ∙ c.in_ok-senders.ensures) (c.deref-2.ensures.value ∙ c.in_ok-takers.ensures)
    c.in_ok-outs-2.ensures.shares c.in_ok-ins.ensures.shares c.in_ok-outs-2.ensures.count c.in_ok-ins.ensures.count
    (λ i lt. ap (λ l. slice_index l i) c.deref-3.ensures.value ∙ c.in_ok-outs-2.ensures.ranks i lt) (λ i lt. ap (λ l. slice_index l i) c.deref-4.ensures.value ∙ c.in_ok-ins.ensures.ranks i lt) c.in_ok-crossings.ensures
