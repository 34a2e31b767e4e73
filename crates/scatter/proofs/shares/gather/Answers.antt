-- The goals of `shares::gather` that the search leaves.
use Rattle.std.proofs.Common.{◌≡◌, ◌+◌, ◌-◌, ◌∙◌, refl, suc, length, sym, subst, arith}
use Rattle.scatter.proofs.Putting.{Gathering, gathering_some, gathering_next, gathering_last}
use Rattle.scatter.proofs.shares.gather.Goals as goal

pub take_last-item-requires : goal.take_last-item-requires
take_last-item-requires g c =
    let hs = c.args.homes.now in
    let j = length hs - 1 - c.loop-i.i in
    let next : length hs - c.loop-i.i ≡ suc j = omega arith in
    let v = c.loop-i.invariant in
    record { some = gathering_some hs c.args.lists.items j c.loop-i.items.items c.loop-i.lists.items c.requires.whole (subst (λ n. Gathering hs c.args.lists.items n c.loop-i.items.items c.loop-i.lists.items) next v.3) }

pub loop-i-preserved : goal.loop-i-preserved
loop-i-preserved g c =
    let hs = c.args.homes.now in
    let j = length hs - 1 - c.loop-i.i in
    let next : length hs - c.loop-i.i ≡ suc j = omega arith in
    let later : j ≡ length hs - (c.loop-i.i + 1) = omega arith in
    let v = c.loop-i.invariant in
    let was = subst (λ n. Gathering hs c.args.lists.items n c.loop-i.items.items c.loop-i.lists.items) next v.3 in
    let is = gathering_next hs c.args.lists.items j _ _ _ _ _ was c.push_reserved.ensures.items (sym c.take_last-item.new.lists.ok.0 ∙ c.take_last-item.ensures.length ∙ c.loop-i.lists.ok.0) c.take_last-item.ensures.items in
    (refl, omega (arith, c.push_reserved.ensures.len, v.1), omega (arith, c.push_reserved.ensures.capacity, v.2), subst (λ n. Gathering hs c.args.lists.items n c.push_reserved.new.self.items c.take_last-item.new.lists.items) later is)

pub returns : goal.returns
returns g c =
    let hs = c.args.homes.now in
    let none : length hs - c.loop-i.i ≡ 0 = omega (arith, c.loop-i-test.false) in
    gathering_last hs c.args.lists.items c.loop-i.items.items _ c.loop-i.lists.items (subst (λ n. Gathering hs c.args.lists.items n c.loop-i.items.items c.loop-i.lists.items) none c.loop-i.invariant.3) c.reverse.ensures.items
