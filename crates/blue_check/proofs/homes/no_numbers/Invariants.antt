use Rattle.std.proofs.Common.{◌≡◌, ℕ, ◌<◌, Some, None, vec_len}
use Rattle.std.specs.Prelude.{slice_get}
use Rattle.blue_check.proofs.homes.no_numbers.Given as goal

abbrev pub invariant-numbers : goal.invariant-numbers
invariant-numbers l = record { long : vec_len l.numbers ≡ l.counter; none : (k : ℕ) → k < l.counter → slice_get l.numbers.items k ≡ Some None }
