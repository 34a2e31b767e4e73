use Rattle.std.proofs.Common.{◌≡◌, ℕ, ◌+◌, List, drop, length}
use Rattle.std.specs.List.{list_all}
use Rattle.blue_names.specs.First.{first_from, when}
use Rattle.blue_names.specs.Sizes.{sizes_fit, lane_fits}
use Rattle.blue_names.proofs.sizes.steps_fit.Given as goal

abbrev pub invariant-loop-step : goal.invariant-loop-step
invariant-loop-step l = list_all (λ s. sizes_fit s.kind) l.steps ≡ list_all (λ s. sizes_fit s.kind) (drop l.step-index l.steps)
