-- A graph in which each wire joins a port that is there to another, and each port is at one wire.
use Rattle.std.specs.Prelude.{◌≡◌, ℕ, ◌<◌, slice_get, Some}
use Rattle.stream_model.specs.Graph.{Graph, Node, Edge, find_wire, find_source}
use Rattle.stream_model.specs.Composed.{inputs_of}
use Rattle.stream_model.specs.View.{outputs_of}

-- each end of a wire is a port of a node, and no other wire has that port; each port has a wire
pub record IsJoined (g : Graph) : Type 0 where
  pub target : (i : ℕ) (v : Edge) → slice_get g.wires i ≡ Some v → (n : Node) × (slice_get g.nodes v.to ≡ Some n) × (v.input < inputs_of n)
      × (find_wire v.to v.input g.wires ≡ Some i)
  pub source : (i : ℕ) (v : Edge) → slice_get g.wires i ≡ Some v → (n : Node) × (slice_get g.nodes v.from ≡ Some n) × (v.output < outputs_of n)
      × (find_source v.from v.output g.wires ≡ Some i)
  pub each_input : (k : ℕ) (n : Node) (p : ℕ) → slice_get g.nodes k ≡ Some n → p < inputs_of n → (i : ℕ) × (find_wire k p g.wires ≡ Some i)
  pub each_output : (k : ℕ) (n : Node) (p : ℕ) → slice_get g.nodes k ≡ Some n → p < outputs_of n → (i : ℕ) × (find_source k p g.wires ≡ Some i)
