-- The loop of `peers::above`.
use Rattle.std.proofs.Common.{◌≡◌, ◌≤◌, ◌<◌, ℕ, Some, slice_get}
use Rattle.island_body.proofs.peers.above.Given as goal

abbrev pub invariant-loop-number : goal.invariant-loop-number
invariant-loop-number l = record {
  least : l.least ≤ l.size;
  most : l.size ≤ 4294967296;
  each : (j w : ℕ) → j < l.number-index → slice_get l.numbers j ≡ Some w → w < l.size;
}
