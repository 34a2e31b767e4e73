-- The loop of `start::finish_all`.
use Rattle.std.proofs.Common.{◌≡◌, ◌+◌, length, vec_len, vec_capacity}
use Rattle.std.specs.Vec.Iter.{into_iter_items, into_iter_len}
use Rattle.island_parts.specs.Starts.{IslandLeaves}
use Rattle.island_parts.proofs.Starting.{Going}
use Rattle.island_parts.proofs.start.finish_all.Given as goal

-- what the islands so far leave
abbrev pub invariant-loop-island : goal.invariant-loop-island
invariant-loop-island g l =
    (goal.iterator-loop-island g).can_next l.island-iterator
    × (goal.iterator-loop-island g).is_finite l.island-iterator
    × (into_iter_len l.island-iterator ≡ length (into_iter_items l.island-iterator))
    × (vec_len l.ends + into_iter_len l.island-iterator ≡ vec_len l.initial.ends + vec_len l.fn.islands)
    × (vec_capacity l.ends ≡ vec_capacity l.initial.ends)
    × Going IslandLeaves l.fn.islands.items l.initial.ends.items (into_iter_items l.island-iterator) l.ends.items
