-- The loop of `turns::unwrap_all`.
use Rattle.std.proofs.Common.{◌≡◌, ◌≤◌, ◌+◌, ◌++◌, Some, map, length, vec_len, vec_capacity, IsSome}
use Rattle.std.specs.List.{All}
use Rattle.std.specs.Vec.Iter.{into_iter_items, into_iter_len}
use Rattle.dispatcher.proofs.turns.unwrap_all.Given as goal

abbrev pub invariant-loop-slot : goal.invariant-loop-slot
invariant-loop-slot g l =
    (goal.iterator-loop-slot g).can_next l.slot-iterator
    × (goal.iterator-loop-slot g).is_finite l.slot-iterator
    × (into_iter_len l.slot-iterator ≡ length (into_iter_items l.slot-iterator))
    × (vec_len l.values + length (into_iter_items l.slot-iterator) ≤ vec_capacity l.values)
    × All IsSome (into_iter_items l.slot-iterator)
    × (l.fn.slots.items ≡ map Some l.values.items ++ into_iter_items l.slot-iterator)
