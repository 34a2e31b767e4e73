-- Which island's end has what nodes and wires leave.
use Rattle.std.specs.Prelude.{◌≡◌, ℕ, Bool, is_some, if◌then◌else◌, List, [], ◌∷◌, ◌++◌, map, slice_index}
use Rattle.stream_model.specs.Graph.{Edge}
use Rattle.stream_model.specs.declared.blueprint.Node.{Node}
use Rattle.blue_names.specs.Picks.{picks}
use Rattle.materializer.specs.Files.{source_file, output_of, is_sink}
use Rattle.materializer.specs.Board.{switch_of}
use Rattle.island_parts.specs.declared.room.EndHomes.{EndHomes}
use Rattle.island_plans.specs.declared.ends.EndList.{EndList}
use Rattle.island_plans.specs.declared.ends.EndList.TheVariants.{Sinks, Picks, Seats, Readers, Writers}

-- a node that leaves an item in this list of its island's end: a sink, a stage whose kind chooses, a valve or a trip, a source of
-- lines, and a sink with a file
abbrev pub leaves_in : EndList → Node → Bool
leaves_in Sinks n = is_sink n
leaves_in Picks n = picks n.kind
leaves_in Seats n = is_some (switch_of n.kind)
leaves_in Readers n = is_some (source_file n.kind)
leaves_in Writers n = is_some (output_of n.kind)

-- the island of a node, where it leaves one
abbrev pub own_home : EndList → Node → ℕ → List ℕ
own_home list n h = if leaves_in list n then h ∷ [] else []

-- the islands of the nodes that leave one, in order of nodes, where these are the islands of all
abbrev pub homes_in : EndList → List Node → List ℕ → List ℕ
homes_in list [] homes = []
homes_in list (n ∷ ns) [] = []
homes_in list (n ∷ ns) (h ∷ hs) = own_home list n h ++ homes_in list ns hs

-- the island in which a wire begins
abbrev pub wire_home : List ℕ → Edge → ℕ
wire_home homes w = slice_index homes w.from

-- those of all lists, and of all wires in their order
pub record AreEndHomes (homes : List ℕ) (nodes : List Node) (ws : List Edge) (e : EndHomes) : Type 0 where
  pub sinks_are : e.sinks.items ≡ homes_in Sinks nodes homes
  pub picks_are : e.picks.items ≡ homes_in Picks nodes homes
  pub seats_are : e.seats.items ≡ homes_in Seats nodes homes
  pub readers_are : e.readers.items ≡ homes_in Readers nodes homes
  pub writers_are : e.writers.items ≡ homes_in Writers nodes homes
  pub wires_are : e.wires.items ≡ map (wire_home homes) ws
