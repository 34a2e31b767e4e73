use Rattle.std.proofs.Common.{◌≡◌, ◌+◌, length, ap, subst, arith}
use Rattle.std.specs.Vec.Iter.{into_iter_items}
use Rattle.island_parts.specs.Room.{HasRoomForMore}
use Rattle.island_parts.proofs.Listing.{SortedSoFar, sorted_next}
use Rattle.island_parts.proofs.lists.sort.Goals as goal

pub loop-end-preserved : goal.loop-end-preserved
loop-end-preserved g c =
    let h = c.in-Some.ensures.steps in
    let i = c.loop-end.invariant in
    let less = h.1 in
    let was = i.count in
    let n = ap length h.0 in
    let one : length (into_iter_items c.loop-end.end-iterator) ≡ length (into_iter_items c.next.new.self) + 1 = omega (arith, n) in
    record {
      can_next = tt;
      is_finite = tt;
      count = omega (arith, less, was, one);
      sorted = sorted_next _ _ _ c.in-Some.end _ (subst (SortedSoFar c.args.ends.items c.loop-end.lists) h.0 i.sorted) c.put.ensures;
      room = c.put.ensures.room (length (into_iter_items c.next.new.self)) (subst (λ m. HasRoomForMore m c.loop-end.lists) one i.room);
    }
