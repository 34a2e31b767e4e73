-- Members of a list of numbers.
use Rattle.std.specs.Prelude.{ℕ, ◌==◌, Bool, List}
use Rattle.std.specs.List.{list_any}

-- a number is in a list
abbrev pub is_in : ℕ → List ℕ → Bool
is_in i ns = list_any (λ n. n == i) ns
