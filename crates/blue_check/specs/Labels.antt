-- Labels of nodes, whichever way wires run.
use Rattle.std.specs.Prelude.{◌≡◌, ℕ, ◌<◌, List, length, slice_get, slice_index, Some}
use Rattle.stream_model.specs.Graph.{Edge}
use Rattle.blue_check.specs.Forest.{Linked}

-- nodes of one label are linked, each wire joins nodes of one label, and a label is one of as many numbers as there are nodes
pub record AreLabels (ws : List Edge) (count : ℕ) (labels : List ℕ) : Type 0 where
  pub each : length labels ≡ count
  pub below : (a : ℕ) → a < count → slice_index labels a < count
  pub linked : (a b : ℕ) → a < count → b < count → slice_index labels a ≡ slice_index labels b → Linked ws a b
  pub alike : (i : ℕ) (w : Edge) → slice_get ws i ≡ Some w → slice_index labels w.from ≡ slice_index labels w.to
