-- How many lines each node of a blueprint may put together, where it is a sink.
use Rattle.std.specs.Prelude.{ℕ, List, [], ◌∷◌, replicate, slice_set}
use Rattle.stream_model.specs.Graph.{Edge}
use Rattle.materializer.specs.Seats.{gather_of}

-- these wires are noted, each at the node to which it leads
abbrev pub with_rooms : List ℕ → List Edge → List ℕ
with_rooms rooms [] = rooms
with_rooms rooms (w ∷ ws) = with_rooms (slice_set rooms w.to (gather_of w.lane)) ws

-- of so many nodes, by their wires
abbrev pub rooms_by : ℕ → List Edge → List ℕ
rooms_by nodes ws = with_rooms (replicate nodes 1) ws
