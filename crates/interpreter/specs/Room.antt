-- Room for an island: what it takes of memory before its nodes hold their handles.
use Rattle.std.specs.Prelude.{◌≡◌, ℕ, ◌+◌, ◌*◌, ◌≤◌, List, [], map, length, replicate, None, vec_len, vec_capacity}
use Rattle.port_core.specs.Cell.{new_cell}
use Rattle.stage_core.specs.declared.stage.TheConstants.{LEAST_ACTS}
use Rattle.interpreter.specs.declared.island.IslandEnd.{IslandEnd}
use Rattle.interpreter.specs.declared.parts.Link.{Link}
use Rattle.interpreter.specs.declared.parts.Place.{Place}
use Rattle.interpreter.specs.declared.room.Blank.{Blank}
use Rattle.interpreter.specs.declared.room.IslandRoom.{IslandRoom}
use Rattle.interpreter.specs.Parts.{ends_of, wire_number, input_count_at, output_count_at, IsSized}
use Rattle.interpreter.specs.Ways.{HasLaneRoom}

-- its lists are empty, and have room for what so many nodes and wires leave
pub record HasRoom {S D : Type 0} (room : IslandEnd S D) (nodes wires : ℕ) : Type 0 where
  pub no_sinks : room.sinks.items ≡ []
  pub no_wires : room.wires.items ≡ []
  pub no_picks : room.picks.items ≡ []
  pub no_misfit : room.misfit ≡ None
  pub no_seats : room.seats.items ≡ []
  pub no_readers : room.readers.items ≡ []
  pub no_writers : room.writers.items ≡ []
  pub room_for_sinks : nodes ≤ vec_capacity room.sinks
  pub room_for_wires : wires ≤ vec_capacity room.wires
  pub room_for_readers : nodes ≤ vec_capacity room.readers
  pub room_for_writers : nodes ≤ vec_capacity room.writers
  pub room_for_picks : nodes ≤ vec_capacity room.picks
  pub room_for_seats : nodes ≤ vec_capacity room.seats

-- there is room for what so many nodes more leave
pub record RoomFor {S D : Type 0} (room : IslandEnd S D) (nodes : ℕ) : Type 0 where
  pub sinks : vec_len room.sinks + nodes ≤ vec_capacity room.sinks
  pub picks : vec_len room.picks + nodes ≤ vec_capacity room.picks
  pub seats : vec_len room.seats + nodes ≤ vec_capacity room.seats
  pub readers : vec_len room.readers + nodes ≤ vec_capacity room.readers
  pub writers : vec_len room.writers + nodes ≤ vec_capacity room.writers

-- there is room for what any call of a node at one of these places appends: two actions for each of its ports
abbrev pub CallsFit : List Place → ℕ → Type 0
CallsFit places room = (n : ℕ) → 2 * (input_count_at places n + output_count_at places n) ≤ room

-- the engine of these places and links, before its nodes are there
pub record IsBlank {S D L H B : Type 0} (blank : Blank S D L H B) (places : List Place) (links : List Link) : Type 0 where
  pub ends : blank.ends.items ≡ map ends_of links
  pub rows : IsSized (input_count_at places) (output_count_at places) (length places) blank.ports.items
  pub wires : blank.wires.items ≡ replicate (length links) new_cell
  pub ring : blank.ring ≡ record { size = length links; queue = [] }
  pub no_nodes : blank.nodes.items ≡ []
  pub room_for_nodes : length places ≤ vec_capacity blank.nodes

-- the room for an island of these places and links
pub record IsRoom {S D L H B : Type 0} (room : IslandRoom S D L H B) (places : List Place) (links : List Link) : Type 0 where
  pub no_acts : room.acts.items ≡ []
  pub least_room : LEAST_ACTS ≤ room.acts.room
  pub room_for_acts : CallsFit places room.acts.room
  pub numbers : room.numbers.items ≡ map wire_number links
  pub places_are : room.places.items ≡ map (λ (p : Place). p.node) places
  pub blank : IsBlank room.blank places links
  pub ways : HasLaneRoom room.ways links
  pub end : HasRoom room.end (length places) (length links)
