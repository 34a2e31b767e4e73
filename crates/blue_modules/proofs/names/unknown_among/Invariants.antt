use Rattle.std.proofs.Common.{◌≡◌, drop}
use Rattle.blue_names.specs.First.{first_from}
use Rattle.blue_modules.specs.Rules.{unknown_use}
use Rattle.blue_modules.specs.Counts.{counted_modules}
use Rattle.blue_modules.proofs.names.unknown_among.Given as goal

abbrev pub invariant-loop-entry : goal.invariant-loop-entry
invariant-loop-entry l = first_from (λ _ e. unknown_use (counted_modules l.before) e) 0 l.entries ≡ first_from (λ _ e. unknown_use (counted_modules l.before) e) l.entry-index (drop l.entry-index l.entries)
