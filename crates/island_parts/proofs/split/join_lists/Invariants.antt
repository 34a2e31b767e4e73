-- The loop of `split::join_lists`.
use Rattle.std.proofs.Common.{◌≡◌, ◌+◌, ◌≤◌, length, vec_len, vec_capacity}
use Rattle.std.specs.Vec.Iter.{into_iter_items, into_iter_len}
use Rattle.island_parts.proofs.Joining.{Parting}
use Rattle.island_parts.proofs.split.join_lists.Given as goal

-- the islands so far
abbrev pub invariant-loop-nodes : goal.invariant-loop-nodes
invariant-loop-nodes g l =
    (goal.iterator-loop-nodes g).can_next l.nodes-iterator
    × (goal.iterator-loop-nodes g).is_finite l.nodes-iterator
    × (into_iter_len l.nodes-iterator ≡ length (into_iter_items l.nodes-iterator))
    × (into_iter_len l.rest ≡ length (into_iter_items l.rest))
    × (vec_len l.islands + into_iter_len l.nodes-iterator ≤ vec_capacity l.islands)
    × Parting l.fn.spaces.items l.fn.lists.items (into_iter_items l.nodes-iterator) (into_iter_items l.rest) l.islands.items
