-- The loop of `board::first_at`.
use Rattle.std.proofs.Common.{◌≡◌, map, drop}
use Rattle.materializer.specs.Board.{least_at_switch}
use Rattle.materializer.proofs.switch_board.first_at.Given as goal

-- none of the nodes so far
abbrev pub invariant-loop-k : goal.invariant-loop-k
invariant-loop-k l = least_at_switch 0 l.name (map (λ n. n.kind) l.nodes) ≡ least_at_switch l.k l.name (map (λ n. n.kind) (drop l.k l.nodes))
