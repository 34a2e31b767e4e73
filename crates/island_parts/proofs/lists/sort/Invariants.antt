-- The loop of `lists::sort`.
use Rattle.std.proofs.Common.{◌≡◌, length}
use Rattle.std.specs.Vec.Iter.{into_iter_items, into_iter_len}
use Rattle.island_parts.specs.Room.{HasRoomForMore}
use Rattle.island_parts.proofs.Listing.{SortedSoFar}
use Rattle.island_parts.proofs.lists.sort.Given as goal

abbrev pub invariant-loop-end : goal.invariant-loop-end
invariant-loop-end g l = record {
  can_next : (goal.iterator-loop-end g).can_next l.end-iterator;
  is_finite : (goal.iterator-loop-end g).is_finite l.end-iterator;
  count : into_iter_len l.end-iterator ≡ length (into_iter_items l.end-iterator);
  sorted : SortedSoFar l.fn.ends.items l.lists (into_iter_items l.end-iterator);
  room : HasRoomForMore (length (into_iter_items l.end-iterator)) l.lists;
}
