-- The loop of `settle::first_pending`.
use Rattle.std.proofs.Common.{◌≡◌, ◌<◌, ℕ, Some, false, slice_get}
use Rattle.lane_core.proofs.settle.first_pending.Given as goal

abbrev pub invariant-loop-k : goal.invariant-loop-k
invariant-loop-k g l = (j : ℕ) (b : _) → slice_get l.bodies j ≡ Some b → j < l.k → g.B.Turning.pending b ≡ false
