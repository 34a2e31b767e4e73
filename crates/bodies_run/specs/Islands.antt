-- The islands of a blueprint, by the homes of its nodes: where each node and each wire's connections stand, and the nets that the parts
-- of the islands have become.
use Rattle.std.specs.Prelude.{◌≡◌, ℕ, ◌+◌, ◌<◌, ◌^◌, true, List, ◌++◌, length, map, take, slice_get, slice_index, Option, Some, None, All}
use Rattle.stream_model.specs.Graph.{Graph, Edge}
use Rattle.stream_model.specs.Graph as graph
use Rattle.stream_model.specs.Composed.{inputs_of}
use Rattle.stream_model.specs.View.{outputs_of}
use Rattle.fused_net.specs.Net.{Net}
use Rattle.fused_net.specs.Laws.{Wired}
use Rattle.nodes.specs.declared.node.IslandNode.{IslandNode}
use Rattle.interpreter.specs.Parts.{inputs_at, outputs_at, ends_of, AllBecome}
use Rattle.interpreter.specs.Ways.{comes_in, goes_out}
use Rattle.interpreter.specs.declared.parts.Link.{Link}
use Rattle.interpreter.specs.declared.parts.Seated.{Seated}
use Rattle.run_laws.specs.Seats.{IslandPlace, Seats}
use Rattle.run_laws.specs.Units.{lane_at}
use Rattle.blue_check.specs.Plan.{lanes_from}
use Rattle.scatter.specs.Shares.{of_home, rank_of}
use Rattle.island_parts.specs.Whole.{lanes_in, whole_links, whole_seats, whole_homes, link_home, own_links, KeepsInside, AreNodes}

-- the islands of all places
abbrev pub place_homes : List ℕ → List Edge → List ℕ
place_homes homes ws = whole_homes homes (lanes_from homes 0 ws)

-- the islands of all links
abbrev pub link_homes : List ℕ → List Edge → List ℕ
link_homes homes ws = map (link_home (place_homes homes ws)) (whole_links (length homes) ws)

-- the island of link p of all, and its place among the links of that island
abbrev pub link_place : List ℕ → List Edge → ℕ → IslandPlace
link_place homes ws p = record { island = slice_index (link_homes homes ws) p; at = rank_of (link_homes homes ws) p }

-- of two links the one at the input of a wire: only a lane has two
abbrev pub input_link : ℕ → ℕ → Option ℕ → ℕ
input_link near far None = near
input_link near far (Some size) = far

-- which of all links is the one at the input of wire u: those of lanes stand behind those at outputs
abbrev pub far_link : List Edge → ℕ → ℕ
far_link ws u = input_link u (length ws + lanes_in (take u ws)) (lane_at ws u)

-- Each node stands in its island, behind those places of it that come before; and so do the connections of each wire, of which link u
-- of all is the one at the output of wire u.
abbrev pub seats_by_islands : List ℕ → List Edge → Seats
seats_by_islands homes ws = record {
  node = λ k. record { island = slice_index homes k; at = rank_of (place_homes homes ws) k };
  near = link_place homes ws;
  far = λ u. link_place homes ws (far_link ws u);
}

-- nodes whose ports these wires join, each in one of so many islands
pub record AreSeated {S D L H B : Type 0} (homes : List ℕ) (count : ℕ) (ws : List Edge) (nodes : List (Seated S D L H B)) : Type 0 where
  pub each : length homes ≡ length nodes
  pub below : All (λ h. h < count) homes
  pub inside : KeepsInside homes ws
  pub nodes_are : AreNodes ws nodes
  pub few : length (whole_links (length nodes) ws) < 2 ^ 32

-- the graph has these wires, and its nodes have the ports of these
pub record IsGraphOf {S D L H B : Type 0} (g : Graph) (ws : List Edge) (nodes : List (Seated S D L H B)) : Type 0 where
  pub wires_are : g.wires ≡ ws
  pub each_node : length g.nodes ≡ length nodes
  pub ins_are : (k : ℕ) (n : graph.Node) → slice_get g.nodes k ≡ Some n → inputs_at nodes k ≡ inputs_of n
  pub outs_are : (k : ℕ) (n : graph.Node) → slice_get g.nodes k ≡ Some n → outputs_at nodes k ≡ outputs_of n

module _ {S D L H B : Type 0} (homes : List ℕ) (ws : List Edge) (nodes : List (Seated S D L H B)) where
  -- what stands at the places of island k
  abbrev pub seats_in : ℕ → List (Seated S D L H B)
  seats_in k = of_home (place_homes homes ws) k (whole_seats nodes (lanes_from homes 0 ws))

  -- the links of island k
  abbrev pub links_in : ℕ → List Link
  links_in k = own_links (place_homes homes ws) (whole_links (length nodes) ws) k

  -- the nets that the parts of so many islands have become
  pub record AreNets (count : ℕ) (nets : ℕ → Net (IslandNode S D L H B)) : Type 0 where
    pub become : (k : ℕ) → k < count → AllBecome (seats_in k) (nets k).firsts
    pub ends_are : (k : ℕ) → k < count → (nets k).ends ≡ map ends_of (links_in k)
    pub wired : (k : ℕ) → k < count → Wired (nets k).ends (nets k).ports (length (nets k).nodes) (length (nets k).wires)
    pub each_first : (k : ℕ) → k < count → length (nets k).firsts ≡ length (nets k).nodes

  -- at this place stands the link at which the lane that is wire u comes into its island
  pub record IsWayIn (u : ℕ) (p : IslandPlace) : Type 0 where
    pub link : Link
    pub at : slice_get (links_in p.island) p.at ≡ Some link
    pub wire : link.wire ≡ u
    pub comes : comes_in (seats_in p.island) link.from ≡ true

  -- at this place stands the link at which the lane that is wire u goes out of its island
  pub record IsWayOut (u : ℕ) (p : IslandPlace) : Type 0 where
    pub link : Link
    pub at : slice_get (links_in p.island) p.at ≡ Some link
    pub wire : link.wire ≡ u
    pub goes : goes_out (seats_in p.island) link.to ≡ true

  -- a lane goes out at its connection in the island of its output, and comes in at that in the island of its input
  pub record HasWays (u : ℕ) (v : Edge) : Type 0 where
    pub out : IsWayOut u ((seats_by_islands homes ws).near u)
    pub out_island : ((seats_by_islands homes ws).near u).island ≡ slice_index homes v.from
    pub inp : IsWayIn u ((seats_by_islands homes ws).far u)
    pub in_island : ((seats_by_islands homes ws).far u).island ≡ slice_index homes v.to

-- the connection at place q of island k is the one at the output of wire u, which is a lane
pub record IsNearOf (homes : List ℕ) (ws : List Edge) (k q u : ℕ) : Type 0 where
  pub wire : Edge
  pub size : ℕ
  pub is : slice_get ws u ≡ Some wire
  pub lane : wire.lane ≡ Some size
  pub place : (seats_by_islands homes ws).near u ≡ record { island = k; at = q }

-- the connection at place q of island k is the one at the input of wire u, which is a lane
pub record IsFarOf (homes : List ℕ) (ws : List Edge) (k q u : ℕ) : Type 0 where
  pub wire : Edge
  pub size : ℕ
  pub is : slice_get ws u ≡ Some wire
  pub lane : wire.lane ≡ Some size
  pub place : (seats_by_islands homes ws).far u ≡ record { island = k; at = q }

-- Lists of so many islands, with an item for each of their places, are the shares of one list: `nodes` are the items of the nodes, in
-- the order of the blueprint, and `ends` are those of the places at which lanes come in, and then go out.
pub record AreBroughtBack {X : Type 0} (homes : List ℕ) (count : ℕ) (ws : List Edge) (lists : ℕ → List X) (nodes ends : List X) : Type 0 where
  pub each_node : length nodes ≡ length homes
  pub each_end : length ends ≡ lanes_in ws + lanes_in ws
  pub shares : (k : ℕ) → k < count → of_home (place_homes homes ws) k (nodes ++ ends) ≡ lists k
  pub at : (k : ℕ) → k < length homes → slice_get nodes k ≡ slice_get (lists (slice_index homes k)) (rank_of (place_homes homes ws) k)
