-- The loop of `peers::below`.
use Rattle.std.proofs.Common.{◌≡◌, ◌≤◌, ◌<◌, ℕ, Some, slice_get}
use Rattle.island_body.proofs.peers.below.Given as goal

abbrev pub invariant-loop-number : goal.invariant-loop-number
invariant-loop-number l = record {
  most : l.least ≤ l.most;
  each : (j w : ℕ) → j < l.number-index → slice_get l.numbers j ≡ Some w → l.least ≤ w;
}
