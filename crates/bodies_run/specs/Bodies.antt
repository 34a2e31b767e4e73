-- The bodies of a blueprint's islands: how they were made, the lanes between them, and the nets of their islands.
use Rattle.std.specs.Prelude.{◌≡◌, ℕ, List, [], Option, Some, None, length, map, slice_get, slice_index}
use Rattle.stream_io.specs.State.{SourceState, DrainState}
use Rattle.stream_model.specs.Graph.{Graph, Edge}
use Rattle.fused_net.specs.Laws.{Settled, AllKept}
use Rattle.fused_net.specs.Net.{Net}
use Rattle.nodes.specs.Nodes.{node_port_state, node_law, node_asking, node_moves, KeepsNode}
use Rattle.nodes.specs.declared.node.IslandNode.{IslandNode}
use Rattle.interpreter.specs.Boundary.{way_in, way_out}
use Rattle.interpreter.specs.Parts.{ends_of, AllBecome}
use Rattle.interpreter.specs.declared.parts.Seated.{Seated}
use Rattle.lane_core.specs.Ends.{asked_in_all, in_size}
use Rattle.lane_core.specs.Boundary.{keeps_all}
use Rattle.island_body.specs.declared.output.OutputBoundary.{OutputBoundary}
use Rattle.island_body.specs.declared.input.IslandInput.{IslandInput}
use Rattle.bodies_run.specs.Islands.{seats_by_islands, seats_in, links_in, AreSeated, IsGraphOf}
use Rattle.lane_core.specs.Bodies.{AllOf}
use Rattle.lane_core.specs.declared.crossing.Crossing.{Crossing}
use Rattle.island_body.specs.Ends.{AllStand, IslandGoes}
use Rattle.island_body.specs.Keeping.{BodyKeeps}
use Rattle.island_body.specs.declared.body.Body.{Body}
use Rattle.stream_model.specs.Linear.{Book}

-- a net without nodes and connections
abbrev pub empty_net : {N : Type 0} → Net N
empty_net = record { nodes = []; firsts = []; wires = []; ends = []; ports = []; queue = [] }

-- the net of a body's island, and the empty one where there is no body
abbrev pub net_in : {S D L H B : Type 0} → Option (Body S D L H B) → Net (IslandNode S D L H B)
net_in None = empty_net
net_in (Some b) = b.island.net

-- the nets of bodies, by their places
abbrev pub net_of : {S D L H B : Type 0} → List (Body S D L H B) → ℕ → Net (IslandNode S D L H B)
net_of bodies k = net_in (slice_get bodies k)

-- wire u is a lane that comes into island k
pub record ComesInto (homes : List ℕ) (ws : List Edge) (k u : ℕ) : Type 0 where
  pub wire : Edge
  pub size : ℕ
  pub is : slice_get ws u ≡ Some wire
  pub lane : wire.lane ≡ Some size
  pub home : slice_index homes wire.to ≡ k

-- wire u is a lane that goes out of island k
pub record GoesOutOf (homes : List ℕ) (ws : List Edge) (k u : ℕ) : Type 0 where
  pub wire : Edge
  pub size : ℕ
  pub is : slice_get ws u ≡ Some wire
  pub lane : wire.lane ≡ Some size
  pub home : slice_index homes wire.from ≡ k

module _ {S D L H B : Type 0} where
  -- At this crossing lie the two ends of the lane that is wire u: the output end at the body of the island that it goes out of, the input
  -- end at that of the island that it comes into, each at its connection; that end keeps what came before a failure where the lane does.
  pub record IsCrossingOf (homes : List ℕ) (ws : List Edge) (bodies : List (Body S D L H B)) (u : ℕ) (v : Edge) (size : ℕ) (c : Crossing) : Type 0 where
    pub from_is : c.from ≡ slice_index homes v.from
    pub to_is : c.to ≡ slice_index homes v.to
    pub from : Body S D L H B
    pub to : Body S D L H B
    pub from_at : slice_get bodies c.from ≡ Some from
    pub to_at : slice_get bodies c.to ≡ Some to
    pub out : OutputBoundary
    pub inp : IslandInput
    pub out_at : slice_get from.outs.items c.out ≡ Some out
    pub inp_at : slice_get to.ins.items c.inp ≡ Some inp
    pub out_wire : out.wire ≡ u
    pub inp_wire : inp.wire ≡ u
    pub size_is : in_size inp.boundary.lane ≡ size
    pub keep_is : keeps_all inp.boundary ≡ v.keep
    pub near_is : ((seats_by_islands homes ws).near u).at ≡ way_out from.island u
    pub far_is : ((seats_by_islands homes ws).far u).at ≡ way_in to.island u

  -- Each lane has its crossing, and no body has an end of anything else.
  pub record AreLanes (homes : List ℕ) (ws : List Edge) (bodies : List (Body S D L H B)) (crossings : List Crossing) : Type 0 where
    pub each : (u : ℕ) (v : Edge) (size : ℕ) → slice_get ws u ≡ Some v → v.lane ≡ Some size
        → (n : ℕ) × ((c : Crossing) × ((slice_get crossings n ≡ Some c) × IsCrossingOf homes ws bodies u v size c))
    pub ins_are : (k j : ℕ) (b : Body S D L H B) (x : IslandInput) → slice_get bodies k ≡ Some b → slice_get b.ins.items j ≡ Some x → ComesInto homes ws k x.wire
    pub outs_are : (k j : ℕ) (b : Body S D L H B) (o : OutputBoundary) → slice_get bodies k ≡ Some b → slice_get b.outs.items j ≡ Some o
        → GoesOutOf homes ws k o.wire

  -- by the number of its wire: how many elements the input end at each crossing has asked for in all
  abbrev pub AskedAre : List (Body S D L H B) → List Crossing → (ℕ → ℕ) → Type 0
  AskedAre bodies crossings all = (n : ℕ) (c : Crossing) (b : Body S D L H B) (x : IslandInput) → slice_get crossings n ≡ Some c → slice_get bodies c.to ≡ Some b
      → slice_get b.ins.items c.inp ≡ Some x → all x.wire ≡ asked_in_all x.boundary.lane

  module _ (sources : S → SourceState) (drains : D → DrainState) (book : Book) where
    -- The bodies as they were made, as many as there are islands: each keeps what bodies keep, its island began as what stands at its
    -- places, and its connections are its links.
    pub record AreBegun (homes : List ℕ) (count : ℕ) (ws : List Edge) (nodes : List (Seated S D L H B)) (begun : List (Body S D L H B)) : Type 0 where
      pub many : length begun ≡ count
      pub keep : AllOf (BodyKeeps sources drains book) begun
      pub become : (k : ℕ) (b : Body S D L H B) → slice_get begun k ≡ Some b → AllBecome (seats_in homes ws nodes k) b.island.net.firsts
      pub ends_are : (k : ℕ) (b : Body S D L H B) → slice_get begun k ≡ Some b → b.island.net.ends ≡ map ends_of (links_in homes ws nodes k)

    -- They are those of the islands of this blueprint, and these crossings are its lanes.
    pub record AreBodiesOf (g : Graph) (homes : List ℕ) (count : ℕ) (ws : List Edge) (nodes : List (Seated S D L H B)) (crossings : List Crossing)
        (begun : List (Body S D L H B)) : Type 0 where
      pub seated : AreSeated homes count ws nodes
      pub graph : IsGraphOf g ws nodes
      pub begun_are : AreBegun homes count ws nodes begun
      pub lanes_are : AreLanes homes ws begun crossings

    -- between two events of its island
    abbrev pub AllSettled : List (Body S D L H B) → Type 0
    AllSettled bodies = (k : ℕ) → Settled node_port_state (node_law sources drains book) node_asking node_moves (net_of bodies k)

    -- A body as it began, as it is now, and as it was at the last moment between two events, with the ends of its lanes as they are now:
    -- its island had gone on, its laws held, and these ends stood. Since then each of its nodes has kept what outlives want of memory.
    pub record IsLastMoment (begun now then : Body S D L H B) : Type 0 where
      pub goes : IslandGoes begun.island then.island
      pub settled : Settled node_port_state (node_law sources drains book) node_asking node_moves then.island.net
      pub stand : AllStand then.island then.ins.items then.outs.items
      pub ins : then.ins ≡ now.ins
      pub outs : then.outs ≡ now.outs
      pub kept : AllKept (KeepsNode sources drains) then.island.net.nodes now.island.net.nodes

    -- each body was such at the last moment between two events
    pub record AreLastOf (begun now then : List (Body S D L H B)) : Type 0 where
      pub count : length then ≡ length now
      pub each : (k : ℕ) (a b c : Body S D L H B) → slice_get begun k ≡ Some a → slice_get now k ≡ Some b → slice_get then k ≡ Some c → IsLastMoment a b c
