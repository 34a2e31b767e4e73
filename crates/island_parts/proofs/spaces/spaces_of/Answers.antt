-- The goal of `spaces::spaces_of` that the search leaves.
use Rattle.std.proofs.Common.{◌<◌, length, sym, arith}
use Rattle.island_parts.proofs.Joining.{spacing_below, spacing_next, fewer}
use Rattle.island_parts.proofs.spaces.spaces_of.Goals as goal

pub loop-list-preserved : goal.loop-list-preserved
loop-list-preserved g c =
    let kept = c.loop-list.invariant in
    let next = c.in-Some.ensures.steps in
    let k = c.loop-list.k in
    let below = spacing_below c.args.places.now c.args.links.items k _ _ _ _ kept.3 next.0 in
    let here : k < length c.args.places.now = omega (arith, below, c.requires.many, c.args.links.ok.0) in
    (tt, tt, fewer _ _ _ _ _ next.0 (sym next.1) kept.2, spacing_next c.args.places.now c.args.links.items k _ _ c.in-Some.list c.index-places-k.result c.deref.result.now _ _ _ kept.3 next.0 here c.index-places-k.is c.deref.ensures.value c.in_ok-space_of.ensures c.in_ok-push.ensures.items)
