-- Counts of faults and of bytes. One that is kept in 64 bits stops at its last value.
use Rattle.std.specs.Prelude.{◌≡◌, ℕ, ◌+◌, ◌<◌, ◌≤◌}

-- the last value of a count of 64 bits
abbrev pub last_count : ℕ
last_count = 18446744073709551615

-- the count rose; one that stands at its last value may have risen
-- Choice: docs/DECISIONS.md#counts-stop
abbrev pub Rose : ℕ → ℕ → Type 0
Rose old new = new < last_count → old < new

-- the count grew by n, unless it stands at its last value; it never falls
pub record Grew (old n new : ℕ) : Type 0 where
  pub stays : old ≤ new
  pub grew : new < last_count → new ≡ old + n

-- the count grew by n at most, unless it stands at its last value; it never falls
pub record GrewAtMost (old n new : ℕ) : Type 0 where
  pub stays : old ≤ new
  pub most : new < last_count → new ≤ old + n
