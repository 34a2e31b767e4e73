use Rattle.std.proofs.Common.{◌≡◌, ℕ, take, vec_len}
use Rattle.blue_names.specs.Links.{wires_of_links}
use Rattle.blue_check.specs.Plan.{nodes_at, wires_at, island_wires}
use Rattle.blue_check.proofs.fill.put_wires.Given as goal

abbrev pub invariant-loop-wire : goal.invariant-loop-wire
invariant-loop-wire l = record {
  long : vec_len l.islands ≡ vec_len l.initial.islands;
  wires : (k : ℕ) → wires_at l.islands.items k ≡ island_wires l.homes (wires_of_links (take l.wire l.links)) k;
  nodes : (k : ℕ) → nodes_at l.islands.items k ≡ nodes_at l.initial.islands.items k;
}
