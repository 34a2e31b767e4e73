use Rattle.std.proofs.Common.{◌≡◌, drop}
use Rattle.blue_names.specs.First.{first_from}
use Rattle.blue_modules.specs.Rules.{unknown_at_end}
use Rattle.blue_modules.proofs.names.unknown_at_wires.Given as goal

abbrev pub invariant-loop-entry : goal.invariant-loop-entry
invariant-loop-entry l = first_from (λ _ e. unknown_at_end l.body e) 0 l.entries ≡ first_from (λ _ e. unknown_at_end l.body e) l.entry-index (drop l.entry-index l.entries)
