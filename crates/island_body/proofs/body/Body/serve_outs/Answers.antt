-- The goals of `body::Body::serve_outs` that the search leaves.
use Rattle.std.proofs.Common.{◌≡◌, ◌∙◌, ◌+◌, ℕ, None, sym, subst, rules, length}
use Rattle.island_body.specs.Ends.{AllServed}
use Rattle.island_body.specs.Lasting.{goes_on}
use Rattle.island_body.proofs.Standing.{served_next_out}
use Rattle.island_body.proofs.body.Body.serve_outs.Goals as goal

pub loop-k-preserved : goal.loop-k-preserved
loop-k-preserved g c =
    let i = c.loop-k.invariant in
    let t = c.serve_out.ensures in
    record {
      stands = t.stands;
      served = subst (λ (n : ℕ). AllServed None n (c.loop-k.k + 1) c.serve_out.new.self.island c.serve_out.new.self.ins.items c.serve_out.new.self.outs.items) (sym t.count.0) (t.served (length c.loop-k.self.ins.items) (c.loop-k.k + 1) (λ x at. served_next_out (length c.loop-k.self.ins.items) c.loop-k.k x _ _ _ at i.served));
      ends = t.count.1 ∙ i.ends;
      goes = goes_on _ _ _ i.goes t.goes;
      peers = (t.peers.0 ∙ i.peers.0, t.peers.1 ∙ i.peers.1);
      costs = (t.costs.0 ∙ i.costs.0, t.costs.1 ∙ i.costs.1);
      rest = (t.rest.0 ∙ i.rest.0, t.rest.1 ∙ i.rest.1);
    }

pub returns-clause-served : goal.returns-clause-served
returns-clause-served g c =
    let all : c.loop-k.k ≡ length c.args.self.now.outs.items = search rules in
    subst (λ (n : ℕ). AllServed None (length c.loop-k.self.ins.items) n c.loop-k.self.island c.loop-k.self.ins.items c.loop-k.self.outs.items) (all ∙ sym c.loop-k.invariant.ends) c.loop-k.invariant.served
