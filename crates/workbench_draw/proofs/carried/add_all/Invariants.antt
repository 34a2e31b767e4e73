use Rattle.std.proofs.Common.{◌≡◌, ◌+◌, ℕ, drop}
use Rattle.blue_names.specs.Links.{wires_of_links}
use Rattle.workbench_draw.specs.Carried.{number_at, into, passed_on}
use Rattle.workbench_draw.proofs.carried.add_all.Given as goal

abbrev pub invariant-loop-i : goal.invariant-loop-i
invariant-loop-i l = (a : ℕ) → number_at l.sums.items a + into l.i (wires_of_links (drop l.i l.links)) (number_at l.carried) a ≡ passed_on l.initial.sums.items (wires_of_links l.links) (number_at l.carried) a
