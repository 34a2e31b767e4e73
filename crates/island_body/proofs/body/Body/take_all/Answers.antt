-- The goals of `body::Body::take_all` that the search leaves.
use Rattle.std.proofs.Common.{◌≡◌, ◌∙◌, sym, arith, rules, length}
use Rattle.fused_net.proofs.Going.{uses_trans}
use Rattle.island_body.specs.Lasting.{goes_on}
use Rattle.island_body.proofs.Acting.{took_more}
use Rattle.island_body.specs.Moving.{LeftNone}
use Rattle.island_body.proofs.Looking.{above_next, below_next, below_all}
use Rattle.island_body.proofs.Telling.{wakes_on}
use Rattle.island_body.proofs.body.Body.take_all.Goals as goal

pub loop-k-preserved : goal.loop-k-preserved
loop-k-preserved g c =
    let i = c.loop-k.invariant in
    let t = c.take_from-used.ensures in
    record {
      stands = t.stands;
      served = t.served;
      ends = t.count ∙ i.ends;
      goes = goes_on _ _ _ i.goes t.goes;
      wakes = wakes_on _ _ _ i.wakes t.wakes;
      uses = uses_trans _ _ _ 0 0 i.uses t.uses;
      less = t.between.1;
      took = let a = t.took in let b = i.took in omega (arith, a, b);
      finds = t.finds ∙ i.finds;
      rest = (t.rest.0 ∙ i.rest.0, t.rest.1 ∙ i.rest.1);
      none = λ e h. let b = t.between.0 in let z : c.loop-k.used ≡ 0 = omega (arith, e, b) in took_more _ _ _ _ (i.none z h) (t.none (e ∙ sym z) (omega (arith, z, h)));
      outs = t.only.outs ∙ i.outs;
      above = above_next _ _ _ c.loop-k.k i.above t.only.others;
      last = λ h. let a = t.between.0 in below_next LeftNone _ _ _ c.loop-k.k i.above (i.last (omega (arith, a, h))) t.only.others (t.last h);
    }

pub returns-clause-last : goal.returns-clause-last
returns-clause-last g c h =
    let all : c.loop-k.k ≡ length c.args.self.now.ins.items = search rules in
    below_all LeftNone _ _ c.loop-k.k all (c.loop-k.invariant.last h)
