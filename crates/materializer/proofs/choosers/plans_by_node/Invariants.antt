-- The loop of `choosers::plans_by_node`.
use Rattle.std.proofs.Common.{◌≡◌, ◌++◌, ◌≤◌, drop, length, map, vec_len, vec_capacity}
use Rattle.std.specs.Vec.Iter.{into_iter_items, into_iter_len}
use Rattle.materializer.specs.Choosers.{moves_of, plans_in, choosers_in}
use Rattle.materializer.proofs.choosers.plans_by_node.Given as goal

-- with those of the nodes that are left they are all, and there is room for them; as many are left as choose
abbrev pub invariant-loop-node : goal.invariant-loop-node
invariant-loop-node l =
    (map moves_of l.by_node.items ++ plans_in (drop l.node-index l.nodes) (map (λ p. p.items) (into_iter_items l.left)) ≡ plans_in l.nodes (map (λ p. p.items) l.fn.plans.items))
    × (vec_len l.by_node ≡ l.node-index)
    × (length l.nodes ≤ vec_capacity l.by_node)
    × (length (into_iter_items l.left) ≡ length (choosers_in (drop l.node-index l.nodes)))
    × (into_iter_len l.left ≡ length (into_iter_items l.left))
