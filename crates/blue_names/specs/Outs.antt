-- The wires out of each node, as rows of their numbers.
use Rattle.std.specs.Prelude.{◌≡◌, ℕ, ◌==◌, true, List, [], length, slice_get, Option, Some, None}
use Rattle.std.specs.List.{list_any}
use Rattle.std.specs.declared.vec.Vec.{Vec}
use Rattle.std.specs.declared.alloc.Global.{Global}
use Rattle.stream_model.specs.Graph.{Edge}

-- the numbers in a row; none where there is no such row
abbrev pub numbers_in : Option (Vec ℕ Global) → List ℕ
numbers_in None = []
numbers_in (Some v) = v.items

-- the numbers of row n; none where there is no such row
abbrev pub row_at : List (Vec ℕ Global) → ℕ → List ℕ
row_at rows n = numbers_in (slice_get rows n)

-- each row has the wires out of its node: those in it are such wires, and such wires are in it
pub record IsOuts (rows : List (Vec ℕ Global)) (ws : List Edge) : Type 0 where
  pub sound : (n i : ℕ) → list_any (λ j. j == i) (row_at rows n) ≡ true → (w : Edge) × (slice_get ws i ≡ Some w) × (w.from ≡ n)
  pub complete : (i : ℕ) (w : Edge) → slice_get ws i ≡ Some w → list_any (λ j. j == i) (row_at rows w.from) ≡ true
