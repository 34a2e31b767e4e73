use Rattle.std.proofs.Common.{◌≡◌, ℕ, ◌+◌, List, drop, length, not}
use Rattle.std.specs.List.{list_all}
use Rattle.blue_names.specs.First.{first_from, when}
use Rattle.blue_names.specs.Sizes.{node_fits}
use Rattle.blue_names.proofs.sizes.node_wrong.Given as goal

abbrev pub invariant-loop-i : goal.invariant-loop-i
invariant-loop-i l = first_from (λ i n. when (not (node_fits l.heads n.kind)) i) 0 l.nodes ≡ first_from (λ i n. when (not (node_fits l.heads n.kind)) i) l.i (drop l.i l.nodes)
