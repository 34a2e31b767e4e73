-- The loop of `board::places_in`.
use Rattle.std.proofs.Common.{◌≡◌, ◌++◌, map, drop}
use Rattle.materializer.specs.Board.{switch_place, places_in}
use Rattle.materializer.proofs.switch_board.places_in.Given as goal

-- with those of the nodes that are left they are all
abbrev pub invariant-loop-node : goal.invariant-loop-node
invariant-loop-node l = l.places.items ++ map (switch_place (map (λ n. n.kind) l.nodes)) (map (λ n. n.kind) (drop l.node-index l.nodes)) ≡ places_in (map (λ n. n.kind) l.nodes)
