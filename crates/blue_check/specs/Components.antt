-- For each node another from which, or to which, a walk leads.
use Rattle.std.specs.Prelude.{ℕ, ◌<◌, List, length, slice_index}
use Rattle.stream_model.specs.Graph.{Edge}
use Rattle.blue_names.specs.Paths.{Path}

-- a walk leads to each node from its origin
pub record AreOrigins (ws : List Edge) (origins : List ℕ) : Type 0 where
  pub leads : (n : ℕ) → n < length origins → Path ws (slice_index origins n) n

-- a walk leads from each node to its goal
pub record AreGoals (ws : List Edge) (goals : List ℕ) : Type 0 where
  pub leads : (n : ℕ) → n < length goals → Path ws n (slice_index goals n)
