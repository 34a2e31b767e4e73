-- The goals of `peers::peers_of` that the search leaves.
use Rattle.std.proofs.Common.{◌∙◌, length, sym, ap}
use Rattle.island_plans.proofs.LaneHomes.{homes_below}
use Rattle.blue_check.specs.declared.plan.LanePlan.{LanePlan}
use Rattle.island_plans.proofs.Pairing.{all_peers, shares_as, shares_from}
use Rattle.island_plans.proofs.peers.peers_of.Goals as goal

pub others-requires-clause-below : goal.others-requires-clause-below
others-requires-clause-below c = homes_below c.args.lanes.now (λ (l : LanePlan). l.to) c.args.count c.deref.result.now (c.deref.ensures.value ∙ c.in_ok-takers.ensures) (λ n l at. (c.requires n l at).to_there)

pub others-requires-2-clause-below : goal.others-requires-2-clause-below
others-requires-2-clause-below c = homes_below c.args.lanes.now (λ (l : LanePlan). l.from) c.args.count c.deref-3.result.now (c.deref-3.ensures.value ∙ c.in_ok-senders.ensures) (λ n l at. (c.requires n l at).from_there)

pub returns : goal.returns
returns c =
    let froms = c.deref-2.ensures.value ∙ c.in_ok-senders.ensures in
    let tos = c.deref.ensures.value ∙ c.in_ok-takers.ensures in
    all_peers c.args.lanes.now c.deref-2.result.now c.deref.result.now c.args.count c.deref-5.result.now c.deref-6.result.now c.in_ok-peers.peers.items froms tos
    (shares_as c.deref.result.now c.deref-2.result.now _ _ c.deref-5.ensures.value c.in_ok-ins.ensures.shares)
    (shares_as c.deref-2.result.now c.deref.result.now _ _ c.deref-6.ensures.value (shares_from c.deref-3.result.now c.deref-2.result.now c.deref-4.result.now c.deref.result.now _ (c.deref-3.ensures.value ∙ sym c.deref-2.ensures.value) (c.deref-4.ensures.value ∙ sym c.deref.ensures.value) c.in_ok-outs.ensures.shares))
    (ap length c.deref-5.ensures.value ∙ c.in_ok-ins.ensures.count) (ap length c.deref-6.ensures.value ∙ c.in_ok-outs.ensures.count) c.in_ok-peers.ensures
