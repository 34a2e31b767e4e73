use Rattle.std.proofs.Common.{◌≡◌, ℕ, ◌+◌, List, drop, length}
use Rattle.blue_names.specs.First.{first_from, when}
use Rattle.blue_names.specs.Table.{Numbers}
use Rattle.blue_names.specs.Names.{unknown_guest_at}
use Rattle.blue_names.proofs.names.unknown_guest_in_steps.Given as goal

abbrev pub invariant-loop-step : goal.invariant-loop-step
invariant-loop-step l = (ps cs : List (List ℕ)) → Numbers l.plugs ps → Numbers l.customs cs
    → first_from (λ _ s. unknown_guest_at ps cs s.kind) 0 l.steps ≡ first_from (λ _ s. unknown_guest_at ps cs s.kind) l.step-index (drop l.step-index l.steps)
