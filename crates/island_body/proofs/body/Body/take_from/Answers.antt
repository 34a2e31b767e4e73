-- The goals of `body::Body::take_from` that the search leaves.
use Rattle.std.proofs.Common.{◌∙◌, arith}
use Rattle.fused_net.proofs.Going.{uses_trans}
use Rattle.island_body.specs.Lasting.{goes_on}
use Rattle.island_body.proofs.Looking.{only_in_on, left_none_on}
use Rattle.island_body.proofs.Telling.{wakes_on}
use Rattle.island_body.proofs.body.Body.take_from.Goals as goal

pub loop-count-preserved : goal.loop-count-preserved
loop-count-preserved g c =
    let i = c.loop-count.invariant in
    let t = c.take_at.ensures in
    record {
      stands = t.stands;
      served = t.served;
      ends = t.count ∙ i.ends;
      goes = goes_on _ _ _ i.goes t.goes;
      wakes = wakes_on _ _ _ i.wakes t.wakes;
      only = only_in_on _ _ _ _ i.goes i.only t.only;
      uses = uses_trans _ _ _ 0 0 i.uses t.uses;
      more = let m = i.more in omega (arith, m);
      less = let l = c.loop-count-test.true in omega (arith, l);
      took = let a = i.took in let b = t.took c.if-not-take_at.false in omega (arith, a, b);
      finds = t.finds ∙ i.finds;
      rest = (t.rest.0 ∙ i.rest.0, t.rest.1 ∙ i.rest.1);
      same = λ e. let m = i.more in absurd (omega (arith, e, m));
    }

pub returns-then-not-take_at-clause-only : goal.returns-then-not-take_at-clause-only
returns-then-not-take_at-clause-only g c = only_in_on _ _ _ _ c.loop-count.invariant.goes c.loop-count.invariant.only c.take_at.ensures.only

pub returns-then-not-take_at-clause-last : goal.returns-then-not-take_at-clause-last
returns-then-not-take_at-clause-last g c less = left_none_on c.args.self.now c.loop-count.self c.take_at.new.self c.args.k c.loop-count.invariant.goes c.loop-count.invariant.only (c.take_at.ensures.last c.if-not-take_at.true)

pub returns-then-not-take_at-clause-wakes : goal.returns-then-not-take_at-clause-wakes
returns-then-not-take_at-clause-wakes g c = wakes_on _ _ _ c.loop-count.invariant.wakes c.take_at.ensures.wakes

pub returns-then-not-take_at-clause-goes : goal.returns-then-not-take_at-clause-goes
returns-then-not-take_at-clause-goes g c = goes_on _ _ _ c.loop-count.invariant.goes c.take_at.ensures.goes
