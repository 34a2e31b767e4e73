-- The loop of `parts::build_all`.
use Rattle.std.proofs.Common.{◌≡◌, ◌+◌, ◌≤◌, List, ◌++◌, length, vec_len, vec_capacity}
use Rattle.std.specs.Vec.Iter.{into_iter_items, into_iter_len}
use Rattle.interpreter.specs.Parts.{AllUnused, AllBecome}
use Rattle.nodes.specs.declared.node.IslandNode.{IslandNode}
use Rattle.interpreter.proofs.parts.build_all.Given as goal

-- what is left to seat, behind the nodes that were made, makes all nodes, for which there is room
abbrev pub invariant-loop-seated : goal.invariant-loop-seated
invariant-loop-seated g l =
    (goal.iterator-loop-seated g).can_next l.seated-iterator
    × (goal.iterator-loop-seated g).is_finite l.seated-iterator
    × (into_iter_len l.seated-iterator ≡ length (into_iter_items l.seated-iterator))
    × AllUnused (into_iter_items l.seated-iterator)
    × ((xs : List (IslandNode _ _ _ _ _)) → AllBecome (into_iter_items l.seated-iterator) xs → AllBecome l.fn.places.items (l.nodes.items ++ xs))
    × (vec_len l.nodes + into_iter_len l.seated-iterator ≤ vec_capacity l.nodes)
