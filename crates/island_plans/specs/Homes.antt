-- The islands of nodes by their numbers.
use Rattle.std.specs.Prelude.{◌≡◌, ℕ, ◌<◌, List, All, slice_index}
use Rattle.stream_model.specs.Graph.{Edge}
use Rattle.blue_check.specs.Plan.{AreHomes}

-- the islands of so many nodes have the numbers below a count: none is empty, and an island's least node stands behind the least
-- nodes of all islands before it
pub record AreNumberedHomes (nodes count : ℕ) (ws : List Edge) (homes : List ℕ) : Type 0 where
  pub are : AreHomes nodes ws homes
  pub below : All (λ h. h < count) homes
  pub some : (k : ℕ) → k < count → (a : ℕ) × ((a < nodes) × (slice_index homes a ≡ k))
  pub in_order : (a k : ℕ) → a < nodes → k < slice_index homes a → (c : ℕ) × ((c < a) × (slice_index homes c ≡ k))
