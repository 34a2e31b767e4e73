use Rattle.std.proofs.Common.{◌≡◌, ℕ, ◌+◌, List, drop, length}
use Rattle.blue_names.specs.First.{first_from, when}
use Rattle.blue_names.specs.Table.{Numbers}
use Rattle.blue_names.specs.Names.{unknown_in_steps}
use Rattle.blue_names.proofs.names.unknown_guest_in_chains.Given as goal

abbrev pub invariant-loop-chain : goal.invariant-loop-chain
invariant-loop-chain l = (ps cs : List (List ℕ)) → Numbers l.plugs ps → Numbers l.customs cs
    → first_from (λ _ s. unknown_in_steps ps cs s.steps.items) 0 l.chains ≡ first_from (λ _ s. unknown_in_steps ps cs s.steps.items) l.chain-index (drop l.chain-index l.chains)
