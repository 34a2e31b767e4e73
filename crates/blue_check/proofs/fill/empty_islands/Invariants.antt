use Rattle.std.proofs.Common.{◌≡◌, ℕ, [], vec_len}
use Rattle.blue_check.specs.Plan.{nodes_at, wires_at}
use Rattle.blue_check.proofs.fill.empty_islands.Given as goal

abbrev pub invariant-islands : goal.invariant-islands
invariant-islands l = record {
  long : vec_len l.islands ≡ l.counter;
  nodes : (k : ℕ) → nodes_at l.islands.items k ≡ [];
  wires : (k : ℕ) → wires_at l.islands.items k ≡ [];
}
