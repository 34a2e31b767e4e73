-- Wires as a graph without nodes, and which nodes walks link when directions are ignored.
use Rattle.std.specs.Prelude.{◌≡◌, ℕ, ◌<◌, List, [], slice_get, Some}
use Rattle.stream_model.specs.Graph.{Graph, Edge}
use Rattle.stream_model.specs.Shape.{Walk, IsPolytree}

-- these wires alone: walks go by nothing else
abbrev pub wiring : List Edge → Graph
wiring ws = record { nodes = []; wires = ws; chains = [] }

-- a walk links two nodes, whichever way its wires run
pub record Linked (ws : List Edge) (a b : ℕ) : Type 0 where
  pub by : List ℕ
  pub walk : Walk (wiring ws) a b by

-- just linked nodes have one label, and no walk is closed
pub record Labels (ws : List Edge) (count : ℕ) (label : ℕ → ℕ) : Type 0 where
  pub sound : (a b : ℕ) → a < count → b < count → label a ≡ label b → Linked ws a b
  pub alike : (i : ℕ) (w : Edge) → slice_get ws i ≡ Some w → label w.from ≡ label w.to
  pub tree : IsPolytree (wiring ws)
