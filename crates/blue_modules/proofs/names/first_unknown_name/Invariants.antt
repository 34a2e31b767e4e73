use Rattle.std.proofs.Common.{◌≡◌, drop}
use Rattle.blue_names.specs.First.{first_from}
use Rattle.blue_modules.specs.Rules.{unknown_in_body}
use Rattle.blue_modules.specs.Scopes.{body_in}
use Rattle.blue_modules.proofs.names.first_unknown_name.Given as goal

abbrev pub invariant-loop-scope : goal.invariant-loop-scope
invariant-loop-scope l = first_from (λ _ s. unknown_in_body (body_in s)) 0 l.scopes ≡ first_from (λ _ s. unknown_in_body (body_in s)) l.scope-index (drop l.scope-index l.scopes)
