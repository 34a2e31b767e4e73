-- The goals of `body::Body::visit_all` that the search leaves.
use Rattle.std.proofs.Common.{◌≡◌, ◌∙◌, sym, arith, rules, length}
use Rattle.fused_net.proofs.Going.{uses_trans}
use Rattle.island_body.specs.Lasting.{goes_on}
use Rattle.island_body.proofs.Acting.{found_more}
use Rattle.island_body.specs.Moving.{SawAll}
use Rattle.island_body.proofs.Looking.{above_next, below_next, below_all}
use Rattle.island_body.proofs.Telling.{wakes_on}
use Rattle.island_body.proofs.body.Body.visit_all.Goals as goal

pub loop-k-preserved : goal.loop-k-preserved
loop-k-preserved g c =
    let i = c.loop-k.invariant in
    let t = c.visit_from-count.ensures in
    record {
      stands = t.stands;
      served = t.served;
      ends = t.count ∙ i.ends;
      goes = goes_on _ _ _ i.goes t.goes;
      wakes = wakes_on _ _ _ i.wakes t.wakes;
      uses = uses_trans _ _ _ 0 0 i.uses t.uses;
      more = let a = t.between.0 in let b = i.more in omega (arith, a, b);
      less = t.between.1;
      taken = t.taken ∙ i.taken;
      finds = let a = t.finds in let b = i.finds in omega (arith, a, b);
      rest = (t.rest.0 ∙ i.rest.0, t.rest.1 ∙ i.rest.1);
      none = λ e h. let a = t.between.0 in let b = i.more in let z : c.loop-k.count ≡ c.args.used = omega (arith, e, a, b) in found_more _ _ _ _ (i.none z h) (t.none (e ∙ sym z) (omega (arith, z, h)));
      ins = t.only.ins ∙ i.ins;
      above = above_next _ _ _ c.loop-k.k i.above t.only.others;
      last = λ h. let a = t.between.0 in below_next SawAll _ _ _ c.loop-k.k i.above (i.last (omega (arith, a, h))) t.only.others (t.last h);
    }

pub returns-clause-last : goal.returns-clause-last
returns-clause-last g c h =
    let all : c.loop-k.k ≡ length c.args.self.now.outs.items = search rules in
    below_all SawAll _ _ c.loop-k.k all (c.loop-k.invariant.last h)
