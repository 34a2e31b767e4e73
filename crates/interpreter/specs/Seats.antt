-- The seats that the valves and trips of an island have at their kill switches.
use Rattle.std.specs.Prelude.{ℕ, Option, None, Some, List, [], ◌∷◌}
use Rattle.stage_switch.specs.Public.{SeatState}
use Rattle.nodes.specs.Nodes.{node_seat}
use Rattle.nodes.specs.declared.node.IslandNode.{IslandNode}

-- a node's number with its seat, in front of those of others, where it has one
abbrev pub with_seat : ℕ → Option SeatState → List (ℕ × SeatState) → List (ℕ × SeatState)
with_seat k None rest = rest
with_seat k (Some seat) rest = (k, seat) ∷ rest

-- the seat of each valve and trip, with its number, in order of nodes
abbrev pub seats_of : {S D L H B : Type 0} → List ℕ → List (IslandNode S D L H B) → List (ℕ × SeatState)
seats_of (k ∷ ks) (x ∷ xs) = with_seat k (node_seat x) (seats_of ks xs)
seats_of _ _ = []
