-- The loop of `turns::wrap`.
use Rattle.std.proofs.Common.{◌≡◌, ◌≤◌, ◌+◌, ◌++◌, Some, map, length, vec_len, vec_capacity}
use Rattle.std.specs.Vec.Iter.{into_iter_items, into_iter_len}
use Rattle.dispatcher.proofs.turns.wrap.Given as goal

abbrev pub invariant-loop-value : goal.invariant-loop-value
invariant-loop-value g l =
    (goal.iterator-loop-value g).can_next l.value-iterator
    × (goal.iterator-loop-value g).is_finite l.value-iterator
    × (into_iter_len l.value-iterator ≡ length (into_iter_items l.value-iterator))
    × (vec_len l.slots + length (into_iter_items l.value-iterator) ≤ vec_capacity l.slots)
    × (map Some l.fn.values.items ≡ l.slots.items ++ map Some (into_iter_items l.value-iterator))
