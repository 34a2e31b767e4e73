-- Counts by name that did not rise, or rose at one name alone.
use Rattle.std.specs.Prelude.{◌≢◌, ℕ, ◌≤◌, List}
use Rattle.stream_io.specs.Counts.{Grew}

-- no count rose, but for one that stands at its last value
abbrev pub Quiet : (List ℕ → ℕ) → (List ℕ → ℕ) → Type 0
Quiet old new = (n : List ℕ) → Grew (old n) 0 (new n)

-- no other name's count rose, and this one's did not fall
pub record QuietBut (name : List ℕ) (old new : List ℕ → ℕ) : Type 0 where
  pub stays : old name ≤ new name
  pub others : (n : List ℕ) → n ≢ name → Grew (old n) 0 (new n)
