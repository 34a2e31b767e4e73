-- The loop of `island::may_gather`.
use Rattle.std.proofs.Common.{◌≡◌, ◌<◌, ◌≤◌, ℕ, Some, slice_get}
use Rattle.interpreter.proofs.island.may_gather.Given as goal

-- those that were looked at may not
abbrev pub invariant-loop-n : goal.invariant-loop-n
invariant-loop-n g l = (k : ℕ) (s : _) → k < l.n → slice_get l.nodes k ≡ Some s → s.room ≤ 1
