-- The goals of `body::Body::serve_ins` that the search leaves.
use Rattle.std.proofs.Common.{◌≡◌, ◌∙◌, ◌+◌, ℕ, None, refl, sym, subst, rules, length}
use Rattle.island_body.specs.Ends.{AllServed}
use Rattle.island_body.specs.Lasting.{goes_still, goes_on}
use Rattle.island_body.proofs.Standing.{served_none, served_next_in}
use Rattle.island_body.proofs.body.Body.serve_ins.Goals as goal

pub loop-k-init : goal.loop-k-init
loop-k-init g c = record { stands = c.requires.stands; served = served_none _ _ _; ends = refl; goes = goes_still _; peers = (refl, refl); costs = (refl, refl); rest = (refl, refl) }

pub loop-k-preserved : goal.loop-k-preserved
loop-k-preserved g c =
    let i = c.loop-k.invariant in
    let t = c.serve_in.ensures in
    record {
      stands = t.stands;
      served = t.served (c.loop-k.k + 1) 0 (λ x at. served_next_in c.loop-k.k 0 x _ _ _ at i.served);
      ends = t.count.0 ∙ i.ends;
      goes = goes_on _ _ _ i.goes t.goes;
      peers = (t.peers.0 ∙ i.peers.0, t.peers.1 ∙ i.peers.1);
      costs = (t.costs.0 ∙ i.costs.0, t.costs.1 ∙ i.costs.1);
      rest = (t.rest.0 ∙ i.rest.0, t.rest.1 ∙ i.rest.1);
    }

pub returns-clause-served : goal.returns-clause-served
returns-clause-served g c =
    let all : c.loop-k.k ≡ length c.args.self.now.ins.items = search rules in
    subst (λ (n : ℕ). AllServed None n 0 c.loop-k.self.island c.loop-k.self.ins.items c.loop-k.self.outs.items) (all ∙ sym c.loop-k.invariant.ends) c.loop-k.invariant.served
