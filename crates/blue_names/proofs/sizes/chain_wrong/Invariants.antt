use Rattle.std.proofs.Common.{◌≡◌, ℕ, ◌+◌, List, drop, length, not}
use Rattle.std.specs.List.{list_all}
use Rattle.blue_names.specs.First.{first_from, when}
use Rattle.blue_names.specs.Sizes.{sizes_fit, lane_fits}
use Rattle.blue_names.proofs.sizes.chain_wrong.Given as goal

abbrev pub invariant-loop-i : goal.invariant-loop-i
invariant-loop-i l = first_from (λ i c. when (not (list_all (λ s. sizes_fit s.kind) c.steps.items)) i) 0 l.chains ≡ first_from (λ i c. when (not (list_all (λ s. sizes_fit s.kind) c.steps.items)) i) l.i (drop l.i l.chains)
