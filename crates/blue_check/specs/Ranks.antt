-- Numbers of nodes that never fall along a wire.
use Rattle.std.specs.Prelude.{◌≡◌, ℕ, ◌≤◌, List, slice_get, slice_index, Some}
use Rattle.stream_model.specs.Graph.{Edge}

-- along each wire the number of its end is that of its beginning or greater
pub record NeverFalls (ws : List Edge) (ranks : List ℕ) : Type 0 where
  pub along : (i : ℕ) (w : Edge) → slice_get ws i ≡ Some w → slice_index ranks w.from ≤ slice_index ranks w.to
