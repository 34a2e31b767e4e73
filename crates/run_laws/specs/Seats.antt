-- Where the nodes and the wires of a blueprint stand, in the nets of its islands.
use Rattle.std.specs.Prelude.{◌≡◌, ℕ, ◌<◌, length, slice_get, None, Some}
use Rattle.stream_model.specs.Graph.{Graph, Edge}
use Rattle.stream_model.specs.Graph as graph
use Rattle.stream_model.specs.Composed.{inputs_of}
use Rattle.stream_model.specs.View.{outputs_of}
use Rattle.fused_net.specs.Net.{Net, end_at, ports_at, wire_at}
use Rattle.run_laws.specs.Account.{Account, WireQuiet}
use Rattle.run_laws.specs.Ends.{LaneKeeps}

-- an island, and a place in it
pub record IslandPlace : Type 0 where
  pub island : ℕ
  pub at : ℕ

-- the place of each node, and those of each wire's connections: the one at its output, and the one at its input
pub record Seats : Type 0 where
  pub node : ℕ → IslandPlace
  pub near : ℕ → IslandPlace
  pub far : ℕ → IslandPlace

-- what the nets tell together, where the input ends of the lanes asked for so many elements
-- Choice: docs/DECISIONS.md#account-of-many-islands
abbrev pub joined_account : {N : Type 0} → (ℕ → Net N) → Seats → (ℕ → ℕ) → Account N
joined_account nets s asked = record {
  firsts = λ k. slice_get (nets (s.node k).island).firsts (s.node k).at;
  nodes = λ k. slice_get (nets (s.node k).island).nodes (s.node k).at;
  near = λ u. wire_at (nets (s.near u).island) (s.near u).at;
  far = λ u. wire_at (nets (s.far u).island) (s.far u).at;
  asked = asked;
}

module _ {N : Type 0} (g : Graph) (nets : ℕ → Net N) (s : Seats) where
  -- Each node stands at its place, with its ports; and each connection at the port of its wire that is in its island, one that is
  -- no lane's between both.
  pub record Covers : Type 0 where
    pub node_within : (k : ℕ) (n : graph.Node) → slice_get g.nodes k ≡ Some n → (s.node k).at < length (nets (s.node k).island).nodes
    pub ins : (k : ℕ) (n : graph.Node) → slice_get g.nodes k ≡ Some n → length (ports_at (nets (s.node k).island) (s.node k).at).ins ≡ inputs_of n
    pub outs : (k : ℕ) (n : graph.Node) → slice_get g.nodes k ≡ Some n → length (ports_at (nets (s.node k).island) (s.node k).at).outs ≡ outputs_of n
    pub near_within : (u : ℕ) (v : Edge) → slice_get g.wires u ≡ Some v → (s.near u).at < length (nets (s.near u).island).wires
    pub near_home : (u : ℕ) (v : Edge) → slice_get g.wires u ≡ Some v → (s.near u).island ≡ (s.node v.from).island
    pub near_from : (u : ℕ) (v : Edge) → slice_get g.wires u ≡ Some v → (end_at (nets (s.near u).island).ends (s.near u).at).from ≡ (s.node v.from).at
    pub near_output : (u : ℕ) (v : Edge) → slice_get g.wires u ≡ Some v → (end_at (nets (s.near u).island).ends (s.near u).at).output ≡ v.output
    pub far_within : (u : ℕ) (v : Edge) → slice_get g.wires u ≡ Some v → (s.far u).at < length (nets (s.far u).island).wires
    pub far_home : (u : ℕ) (v : Edge) → slice_get g.wires u ≡ Some v → (s.far u).island ≡ (s.node v.to).island
    pub far_to : (u : ℕ) (v : Edge) → slice_get g.wires u ≡ Some v → (end_at (nets (s.far u).island).ends (s.far u).at).to ≡ (s.node v.to).at
    pub far_input : (u : ℕ) (v : Edge) → slice_get g.wires u ≡ Some v → (end_at (nets (s.far u).island).ends (s.far u).at).input ≡ v.input
    pub fused : (u : ℕ) (v : Edge) → slice_get g.wires u ≡ Some v → v.lane ≡ None → s.far u ≡ s.near u

  -- of each lane what is kept of its ends and known of both, between the connections at its places
  abbrev pub LanesKeep : (ℕ → ℕ) → Type 0
  LanesKeep asked = (u : ℕ) (v : Edge) (size : ℕ) → slice_get g.wires u ≡ Some v → v.lane ≡ Some size
      → LaneKeeps v.keep size (wire_at (nets (s.near u).island) (s.near u).at) (wire_at (nets (s.far u).island) (s.far u).at) (asked u)

  -- and where no island has an event, each lane rests
  abbrev pub LanesRest : (ℕ → ℕ) → Type 0
  LanesRest asked = (u : ℕ) (v : Edge) (size : ℕ) → slice_get g.wires u ≡ Some v → v.lane ≡ Some size
      → WireQuiet v.keep (Some size) (wire_at (nets (s.near u).island) (s.near u).at) (wire_at (nets (s.far u).island) (s.far u).at) (asked u)

-- the place of a node or a connection, by its number, where one island has all
abbrev pub at_home : ℕ → IslandPlace
at_home k = record { island = 0; at = k }

-- the seats of one island that has all nodes and wires, each at its number
abbrev pub one_seat : Seats
one_seat = record { node = at_home; near = at_home; far = at_home }

-- what one island tells, in which no wire is a lane
abbrev pub account_of : {N : Type 0} → Net N → Account N
account_of net = joined_account (λ b. net) one_seat (λ u. 0)
