use Rattle.std.proofs.Common.{◌≡◌, ℕ, ◌<◌, vec_len, get_or}
use Rattle.blue_check.proofs.classes.own_labels.Given as goal

abbrev pub invariant-loop-i : goal.invariant-loop-i
invariant-loop-i l = (vec_len l.labels ≡ l.i) × ((k : ℕ) → k < l.i → get_or l.labels.items k 0 ≡ k)
