-- Lists that name islands.
use Rattle.std.specs.Prelude.{◌≡◌, ℕ, List, slice_get, Some}

-- the list has each number once of which P holds, and no other
pub record NamesEach (P : ℕ → Type 0) (l : List ℕ) : Type 0 where
  pub only : (i n : ℕ) → slice_get l i ≡ Some n → P n
  pub all : (n : ℕ) → P n → (i : ℕ) × (slice_get l i ≡ Some n)
  pub once : (i j n : ℕ) → slice_get l i ≡ Some n → slice_get l j ≡ Some n → i ≡ j
