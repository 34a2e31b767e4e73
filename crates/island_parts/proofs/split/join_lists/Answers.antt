-- The goals of `split::join_lists` that the search leaves.
use Rattle.std.proofs.Common.{◌≡◌, ◌∙◌, length, ap, sym, arith, rules}
use Rattle.std.specs.Vec.Iter.{into_iter_items, into_iter_len}
use Rattle.island_parts.proofs.Joining.{parting_first, parting_next, parting_some, parting_last, fewer, none_left}
use Rattle.island_parts.proofs.split.join_lists.Goals as goal

pub loop-nodes-init : goal.loop-nodes-init
loop-nodes-init g c =
    let r = c.into_iter-nodes-iterator.result in
    let all : into_iter_items r ≡ c.args.lists.items = search rules in
    let left : into_iter_len r ≡ length (into_iter_items r) = search rules in
    let spaces : into_iter_items c.into_iter-rest.result ≡ c.args.spaces.items = search rules in
    let many : length c.args.lists.items ≡ length c.args.spaces.items = sym c.args.lists.ok.0 ∙ c.requires.many ∙ c.args.spaces.ok.0 in
    let none : length c.args.islands.items ≡ 0 = ap length c.requires.empty in
    let size : length (into_iter_items r) ≡ length c.args.lists.items = ap length all in (
      tt,
      tt,
      left,
      search rules,
      omega (arith, none, left, size, c.requires.room, c.args.islands.ok.0, c.args.lists.ok.0),
      parting_first c.args.spaces.items c.args.lists.items _ _ _ all spaces many c.requires.empty,
    )

pub take_next-requires : goal.take_next-requires
take_next-requires g c = let some = parting_some c.args.spaces.items c.args.lists.items _ _ _ _ _ c.loop-nodes.invariant.5 c.in-Some.ensures.steps.0 in omega (arith, some, c.loop-nodes.invariant.3)

pub loop-nodes-preserved : goal.loop-nodes-preserved
loop-nodes-preserved g c =
    let kept = c.loop-nodes.invariant in
    let next = c.in-Some.ensures.steps in (
      tt,
      tt,
      fewer _ _ _ _ _ next.0 (sym next.1) kept.2,
      fewer _ _ _ _ _ c.take_next.ensures.items c.take_next.ensures.len kept.3,
      omega (arith, kept.4, next.1, c.push_reserved.ensures.len, c.push_reserved.ensures.capacity),
      parting_next c.args.spaces.items c.args.lists.items _ _ c.in-Some.nodes _ _ c.take_next.result _ _ c.island.result kept.5 next.0 c.take_next.ensures.items c.push_reserved.ensures.items c.island.ensures.nodes c.island.ensures.links c.island.ensures.room,
    )

pub returns : goal.returns
returns g c =
    let kept = c.loop-nodes.invariant in
    let many : length c.args.lists.items ≡ length c.args.spaces.items = sym c.args.lists.ok.0 ∙ c.requires.many ∙ c.args.spaces.ok.0 in
    parting_last c.args.spaces.items c.args.lists.items _ _ _ many kept.5 (none_left _ _ c.in-None.ensures.steps.0 kept.2)
