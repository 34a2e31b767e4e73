use Rattle.std.proofs.Common.{◌≡◌, drop}
use Rattle.blue_names.specs.First.{first_from}
use Rattle.blue_modules.specs.Rules.{wrong_wire}
use Rattle.blue_modules.specs.Scopes.{body_in}
use Rattle.blue_modules.proofs.ports.wrong_among_wires.Given as goal

abbrev pub invariant-loop-entry : goal.invariant-loop-entry
invariant-loop-entry l = first_from (λ _ e. wrong_wire (body_in l.scope) e) 0 l.entries ≡ first_from (λ _ e. wrong_wire (body_in l.scope) e) l.entry-index (drop l.entry-index l.entries)
