-- The plans of a blueprint's islands: what they take of memory before its files are opened, and their parts.
use Rattle.std.specs.Prelude.{◌≡◌, ℕ, ◌+◌, ◌≤◌, List, [], length, map, slice_get, Option, Some, vec_len, vec_capacity}
use Rattle.elem_core.specs.Sort.{Sort}
use Rattle.stream_model.specs.Graph.{Edge}
use Rattle.stream_model.specs.declared.blueprint.Blueprint.{Blueprint}
use Rattle.stream_model.specs.declared.blueprint.Node.{Node}
use Rattle.blue_check.specs.Wires.{blueprint_wires}
use Rattle.interpreter.specs.Handles.{sources_in, drains_in}
use Rattle.interpreter.specs.Parts.{AreParts, seat_place}
use Rattle.interpreter.specs.Room.{IsRoom}
use Rattle.interpreter.specs.declared.parts.Parts.{Parts}
use Rattle.interpreter.specs.declared.parts.Seated.{Seated}
use Rattle.interpreter.specs.declared.room.IslandRoom.{IslandRoom}
use Rattle.blue_check.specs.Plan.{lanes_from}
use Rattle.blue_check.specs.declared.plan.LanePlan.{LanePlan}
use Rattle.scatter.specs.Shares.{of_home}
use Rattle.island_parts.specs.Split.{IsSplit}
use Rattle.island_parts.specs.Whole.{AreNodes, own_links, whole_homes, whole_links, whole_seats}
use Rattle.materializer.specs.Fit.{CanRun}
use Rattle.materializer.specs.Graphs.{around_of}
use Rattle.materializer.specs.Board.{IsBoard, AreAtSwitches}
use Rattle.materializer.specs.Planned.{ArePlanned, places_from, planned_seat, planned_plan, planned_room, planned_types}
use Rattle.materializer.specs.Seats.{AreSeats, place_seat, place_room}
use Rattle.island_plans.specs.Ends.{AreEndHomes}
use Rattle.island_plans.specs.Homes.{AreNumberedHomes}
use Rattle.island_plans.specs.Rooms.{rooms_by}
use Rattle.island_plans.specs.declared.plans.Filled.{Filled}
use Rattle.island_plans.specs.declared.plans.Plans.{Plans}

-- the plans of the islands of their blueprint, which can be run: its seats, the memory of all islands, an empty list with room for
-- its nodes and for both ends of each lane, the lanes, the islands of its nodes and of what their ends list, and the board of its
-- kill switches, at which its seats are; each seat may put as many lines together as its wire lets
pub record IsPlans {S D L H B : Type 0} (p : Plans S D L H B) : Type 0 where
  pub runs : CanRun p.blueprint.value
  pub homes_are : AreNumberedHomes (length p.blueprint.value.nodes.items) p.count (blueprint_wires p.blueprint.value) p.homes.items
  pub lanes_are : p.lanes.items ≡ lanes_from p.homes.items 0 (blueprint_wires p.blueprint.value)
  pub ends_are : AreEndHomes p.homes.items p.blueprint.value.nodes.items (blueprint_wires p.blueprint.value) p.ends
  pub seats : ArePlanned (around_of p.blueprint.value) 0 p.blueprint.value.nodes.items p.seats.items
  pub split : IsSplit p.homes.items p.count (blueprint_wires p.blueprint.value)
      (places_from p.blueprint.value.wires.items 0 p.blueprint.value.nodes.items) p.split
  pub board_is : IsBoard (map (λ (n : Node). n.kind) p.blueprint.value.nodes.items) p.board
  pub at_switches : AreAtSwitches (map (λ (n : Node). n.kind) p.blueprint.value.nodes.items) p.board (map planned_seat p.seats.items)
  pub rooms : map planned_room p.seats.items ≡ rooms_by (length p.blueprint.value.nodes.items) (blueprint_wires p.blueprint.value)
  pub empty : p.places.items ≡ []
  pub room_for_places : vec_len p.seats + length p.lanes.items + length p.lanes.items ≤ vec_capacity p.places

-- of each node the moves that it follows, where it follows some
abbrev pub led_plans : {S D L H B : Type 0} → Plans S D L H B → List (Option (List ℕ))
led_plans p = map planned_plan p.seats.items

-- of each node the types of its outputs, where it is a custom stage
abbrev pub made_types : {S D L H B : Type 0} → Plans S D L H B → List (Option (List Sort))
made_types p = map planned_types p.seats.items

-- the parts and the room of island k of these nodes, which have these homes, where these wires join them and these lanes are cut
pub record IsIslandOf {S D L H B : Type 0} (homes : List ℕ) (ws : List Edge) (lanes : List LanePlan) (nodes : List (Seated S D L H B)) (k : ℕ)
    (x : Parts S D L H B × IslandRoom S D L H B) : Type 0 where
  pub nodes_are : x.0.nodes.items ≡ of_home (whole_homes homes lanes) k (whole_seats nodes lanes)
  pub links_are : x.0.links.items ≡ own_links (whole_homes homes lanes) (whole_links (length nodes) ws) k
  pub parts : AreParts x.0.nodes.items x.0.links.items
  pub room : IsRoom x.1 (map seat_place x.0.nodes.items) x.0.links.items

-- the islands of a blueprint, whose nodes hold these sources and drains, each in the order of nodes, and their seats at the board of
-- its kill switches
pub record IsFilled {S D L H B : Type 0} (b : Blueprint) (sources : List S) (drains : List D) (f : Filled S D L H B) : Type 0 where
  pub nodes : List (Seated S D L H B)
  pub seats : AreSeats (around_of b) 0 b.nodes.items sources drains nodes
  pub joined : AreNodes (blueprint_wires b) nodes
  pub sources_are : sources_in nodes ≡ sources
  pub drains_are : drains_in nodes ≡ drains
  pub homes_are : AreNumberedHomes (length b.nodes.items) f.count (blueprint_wires b) f.homes.items
  pub lanes_are : f.lanes.items ≡ lanes_from f.homes.items 0 (blueprint_wires b)
  pub ends_are : AreEndHomes f.homes.items b.nodes.items (blueprint_wires b) f.ends
  pub board_is : IsBoard (map (λ (n : Node). n.kind) b.nodes.items) f.board
  pub at_switches : AreAtSwitches (map (λ (n : Node). n.kind) b.nodes.items) f.board (map place_seat nodes)
  pub rooms : map place_room nodes ≡ rooms_by (length b.nodes.items) (blueprint_wires b)
  pub many : length f.islands.items ≡ f.count
  pub each : (k : ℕ) (x : Parts S D L H B × IslandRoom S D L H B) → slice_get f.islands.items k ≡ Some x
      → IsIslandOf f.homes.items (blueprint_wires b) f.lanes.items nodes k x
