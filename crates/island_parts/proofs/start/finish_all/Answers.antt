-- The goals of `start::finish_all` that the search leaves.
use Rattle.std.proofs.Common.{◌≡◌, ◌∙◌, length, ap, sym, refl, arith, rules}
use Rattle.std.specs.Vec.Iter.{into_iter_items, into_iter_len}
use Rattle.island_parts.specs.Starts.{IslandLeaves}
use Rattle.island_parts.proofs.Starting.{fewer, none_left, going_first, going_next, going_last}
use Rattle.island_parts.proofs.start.finish_all.Goals as goal

pub loop-island-init : goal.loop-island-init
loop-island-init g c =
    let r = c.into_iter-island-iterator.result in
    let all : into_iter_items r ≡ c.args.islands.items = search rules in
    let left : into_iter_len r ≡ length (into_iter_items r) = search rules in
    let size : length (into_iter_items r) ≡ length c.args.islands.items = ap length all in (
      tt,
      tt,
      left,
      omega (arith, left, size, c.args.islands.ok.0),
      refl,
      going_first IslandLeaves c.args.islands.items c.args.ends.now.items _ _ all refl,
    )

pub loop-island-preserved : goal.loop-island-preserved
loop-island-preserved g c =
    let kept = c.loop-island.invariant in
    let next = c.in-Some.ensures.steps in (
      tt,
      tt,
      fewer _ _ _ _ _ next.0 (sym next.1) kept.2,
      omega (arith, kept.3, next.1, c.push_reserved.ensures.len),
      c.push_reserved.ensures.capacity ∙ kept.4,
      going_next IslandLeaves c.args.islands.items c.args.ends.now.items _ _ _ _ _ _ kept.5 next.0 c.push_reserved.ensures.items c.finish.ensures,
    )

pub returns-clause-adds : goal.returns-clause-adds
returns-clause-adds g c =
    let kept = c.loop-island.invariant in
    going_last IslandLeaves c.args.islands.items c.args.ends.now.items _ _ kept.5 (none_left _ _ c.in-None.ensures.steps.0 kept.2)
