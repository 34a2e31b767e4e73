-- The loop of `choosers::no_plans`.
use Rattle.std.proofs.Common.{◌≡◌, ◌≤◌, None, map, replicate, vec_len, vec_capacity}
use Rattle.materializer.specs.Choosers.{moves_of}
use Rattle.materializer.proofs.choosers.no_plans.Given as goal

-- so many there are, and there is room for all
abbrev pub invariant-loop : goal.invariant-loop
invariant-loop l =
    (map moves_of l.by_node.items ≡ replicate l.counter None)
    × (vec_len l.by_node ≡ l.counter)
    × (l.fn.nodes ≤ vec_capacity l.by_node)
