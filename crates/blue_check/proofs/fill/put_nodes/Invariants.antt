use Rattle.std.proofs.Common.{◌≡◌, ℕ, take, vec_len}
use Rattle.blue_check.specs.Plan.{nodes_at, wires_at, island_nodes}
use Rattle.blue_check.proofs.fill.put_nodes.Given as goal

abbrev pub invariant-loop-node : goal.invariant-loop-node
invariant-loop-node l = record {
  long : vec_len l.islands ≡ vec_len l.initial.islands;
  nodes : (k : ℕ) → nodes_at l.islands.items k ≡ island_nodes (take l.node l.homes) k;
  wires : (k : ℕ) → wires_at l.islands.items k ≡ wires_at l.initial.islands.items k;
}
