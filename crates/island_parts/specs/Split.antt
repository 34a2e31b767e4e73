-- What the islands of a blueprint take of memory, before their places are there, and their parts.
use Rattle.std.specs.Prelude.{◌≡◌, ℕ, ◌≤◌, ◌<◌, ◌^◌, List, [], length, slice_get, Some, All, vec_capacity}
use Rattle.std.specs.declared.vec.Vec.{Vec}
use Rattle.std.specs.declared.alloc.Global.{Global}
use Rattle.stream_model.specs.Graph.{Edge}
use Rattle.interpreter.specs.declared.parts.Link.{Link}
use Rattle.interpreter.specs.declared.parts.Parts.{Parts}
use Rattle.interpreter.specs.declared.parts.Place.{Place}
use Rattle.interpreter.specs.declared.parts.Seated.{Seated}
use Rattle.interpreter.specs.declared.room.IslandRoom.{IslandRoom}
use Rattle.interpreter.specs.Room.{IsRoom}
use Rattle.blue_check.specs.Plan.{lanes_from}
use Rattle.scatter.specs.Shares.{of_home, items_at, AreEmptyFor}
use Rattle.island_parts.specs.Whole.{whole_links, whole_places, whole_homes, own_links}
use Rattle.island_parts.specs.declared.spaces.Space.{Space}
use Rattle.island_parts.specs.declared.split.Split.{Split}

-- the links of an island, and the room for it
pub record IsSpace {S D L H B : Type 0} (places : List Place) (links : List Link) (s : Space S D L H B) : Type 0 where
  pub links_are : s.links.items ≡ links
  pub room_is : IsRoom s.room places links

-- the space of each island: its links, and the room for it
pub record AreSpaces {S D L H B : Type 0} (places : List (Vec Place Global)) (links : List (Vec Link Global)) (spaces : List (Space S D L H B)) : Type 0 where
  pub many : length spaces ≡ length links
  pub each : (k : ℕ) (s : Space S D L H B) → slice_get spaces k ≡ Some s → IsSpace (items_at places k) (items_at links k) s

-- there is all memory for so many islands
pub record IsReady {S D L H B : Type 0} (count : ℕ) (s : Split S D L H B) : Type 0 where
  pub below : All (λ h. h < count) s.homes.items
  pub lists_are : AreEmptyFor s.homes.items count s.lists.items
  pub spaces_many : length s.spaces.items ≡ count
  pub none : s.islands.items ≡ []
  pub room : count ≤ vec_capacity s.islands

-- the islands of these nodes, which these wires join, where each node has a home
pub record IsSplit {S D L H B : Type 0} (homes : List ℕ) (count : ℕ) (ws : List Edge) (nodes : List Place) (s : Split S D L H B) : Type 0 where
  pub ready : IsReady count s
  pub homes_are : s.homes.items ≡ whole_homes homes (lanes_from homes 0 ws)
  pub few : length (whole_links (length nodes) ws) < 2 ^ 32
  pub spaces_are : (k : ℕ) (x : Space S D L H B) → slice_get s.spaces.items k ≡ Some x
      → IsSpace (of_home s.homes.items k (whole_places nodes (lanes_from homes 0 ws))) (own_links s.homes.items (whole_links (length nodes) ws) k) x

-- the parts of an island and its room: the places of its list, and its space
pub record IsPart {S D L H B : Type 0} (lists : List (Vec (Seated S D L H B) Global)) (spaces : List (Space S D L H B)) (k : ℕ)
    (x : Parts S D L H B × IslandRoom S D L H B) : Type 0 where
  pub nodes_are : x.0.nodes.items ≡ items_at lists k
  pub space : Space S D L H B
  pub space_at : slice_get spaces k ≡ Some space
  pub links_are : x.0.links.items ≡ space.links.items
  pub room_is : x.1 ≡ space.room

-- the parts of each island and its room: the places of its list, and its space
pub record AreJoined {S D L H B : Type 0} (lists : List (Vec (Seated S D L H B) Global)) (spaces : List (Space S D L H B))
    (islands : List (Parts S D L H B × IslandRoom S D L H B)) : Type 0 where
  pub many : length islands ≡ length spaces
  pub each : (k : ℕ) (x : Parts S D L H B × IslandRoom S D L H B) → slice_get islands k ≡ Some x → IsPart lists spaces k x

-- the parts of an island and its room: its share of what stands at all places, and its space
pub record IsIsland {S D L H B : Type 0} (s : Split S D L H B) (seats : List (Seated S D L H B)) (k : ℕ) (x : Parts S D L H B × IslandRoom S D L H B) : Type 0 where
  pub nodes_are : x.0.nodes.items ≡ of_home s.homes.items k seats
  pub space : Space S D L H B
  pub space_at : slice_get s.spaces.items k ≡ Some space
  pub links_are : x.0.links.items ≡ space.links.items
  pub room_is : x.1 ≡ space.room

-- the parts of each island and its room: its share of what stands at all places, and its space
pub record AreIslands {S D L H B : Type 0} (s : Split S D L H B) (seats : List (Seated S D L H B)) (islands : List (Parts S D L H B × IslandRoom S D L H B))
    : Type 0 where
  pub many : length islands ≡ length s.spaces.items
  pub each : (k : ℕ) (x : Parts S D L H B × IslandRoom S D L H B) → slice_get islands k ≡ Some x → IsIsland s seats k x
