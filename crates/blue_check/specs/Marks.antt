-- The nodes that a walk along wires has reached so far.
use Rattle.std.specs.Prelude.{◌≡◌, ℕ, ◌<◌, nat_eq, Bool, true, false, List, slice_get, Option, Some, None}
use Rattle.std.specs.List.{IsDistinct}
use Rattle.stream_model.specs.Graph.{Edge}
use Rattle.blue_names.specs.Paths.{Path}
use Rattle.blue_names.specs.Members.{is_in}

-- the mark of a node
abbrev pub mark_in : Option Bool → Bool
mark_in None = false
mark_in (Some b) = b

-- the mark of node i; none where there is no such node
abbrev pub mark_at : List Bool → ℕ → Bool
mark_at marks i = mark_in (slice_get marks i)

-- the nodes in order of arrival: just these are marked, none comes twice, and a walk leads to each
pub record Reaches (ws : List Edge) (start count : ℕ) (marks : List Bool) (order : List ℕ) : Type 0 where
  pub marked : (i : ℕ) → mark_at marks i ≡ is_in i order
  pub walked : (i : ℕ) → is_in i order ≡ true → Path ws start i
  pub below : (i : ℕ) → is_in i order ≡ true → i < count
  pub distinct : IsDistinct nat_eq order
  pub begins : is_in start order ≡ true
