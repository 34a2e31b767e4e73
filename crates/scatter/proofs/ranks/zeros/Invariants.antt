use Rattle.std.proofs.Common.{◌≡◌, ◌<◌, ℕ, slice_index, vec_len}
use Rattle.scatter.proofs.ranks.zeros.Given as goal

abbrev pub invariant-counts : goal.invariant-counts
invariant-counts l = record {
  long : vec_len l.counts ≡ l.counter;
  zero : (k : ℕ) → k < l.counter → slice_index l.counts.items k ≡ 0;
}
