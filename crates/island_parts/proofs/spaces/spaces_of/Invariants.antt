-- The loop of `spaces::spaces_of`.
use Rattle.std.proofs.Common.{◌≡◌, length}
use Rattle.std.specs.Vec.Iter.{into_iter_items, into_iter_len}
use Rattle.island_parts.proofs.Joining.{Spacing}
use Rattle.island_parts.proofs.spaces.spaces_of.Given as goal

-- the spaces of the islands so far
abbrev pub invariant-loop-list : goal.invariant-loop-list
invariant-loop-list g l =
    (goal.iterator-loop-list g).can_next l.list-iterator
    × (goal.iterator-loop-list g).is_finite l.list-iterator
    × (into_iter_len l.list-iterator ≡ length (into_iter_items l.list-iterator))
    × Spacing l.places l.fn.links.items l.k (into_iter_items l.list-iterator) l.spaces.items
