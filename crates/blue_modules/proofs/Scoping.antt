-- The first rule that a text breaks is found body by body.
use Rattle.std.proofs.Common.{◌≡◌, ℕ, List, [], Option, Some, None, refl, ap, ◌∙◌}
use Rattle.std.specs.Option.{option_or}
use Rattle.blue_modules.specs.declared.scopes.Scope.{Scope}
use Rattle.blue_modules.specs.declared.fault.ModuleFault.{ModuleFault}
use Rattle.blue_modules.specs.declared.fault.ModuleFault.TheVariants.{TooLarge}
use Rattle.blue_names.specs.First.{when}
use Rattle.blue_modules.specs.Text.{PlainModule, PlainText}
use Rattle.blue_modules.specs.Rules.{bodies, named_again, unknown_module, unknown_in_body, wrong_in}
use Rattle.blue_modules.specs.Scopes.{body_in, bodies_in}
use Rattle.blue_modules.specs.ScopeFaults.{faults_in}
use Rattle.blue_modules.specs.declared.parts.Around.{Around}
use Rattle.blue_modules.specs.declared.text.Entry.{Entry}
use Rattle.blue_modules.specs.Flatten.{inside, flat_body, latest_first, around_text}
use Rattle.blue_modules.specs.Fitness.{exceeds_limits, bodies_of, bodies_fault, too_large, rule_fault}
use Rattle.blue_modules.proofs.Gathering.{first_from-map}

faults_are : (ss : List Scope) → faults_in ss ≡ bodies_fault (bodies_in ss)
faults_are ss =
    rw (first_from-map named_again body_in 0 ss, first_from-map unknown_module body_in 0 ss, first_from-map unknown_in_body body_in 0 ss, first_from-map wrong_in body_in 0 ss) refl

of_text : (t : PlainText) (ms : List PlainModule) (ss : List Scope) → bodies_in ss ≡ bodies ms t.body → ms ≡ latest_first t.modules → faults_in ss ≡ bodies_fault (bodies_of t)
of_text t ms ss b m = faults_are ss ∙ ap bodies_fault (b ∙ ap (λ x. bodies x t.body) m)

pub rule_found : (t : PlainText) (ms : List PlainModule) (ss : List Scope) (f : ModuleFault) → Some f ≡ faults_in ss → bodies_in ss ≡ bodies ms t.body → ms ≡ latest_first t.modules → Some f ≡ rule_fault t
rule_found t ms ss f h b m = ap (λ o. option_or o (when (too_large t) TooLarge)) (h ∙ of_text t ms ss b m)

pub rule_size : (t : PlainText) (ms : List PlainModule) (ss : List Scope) (o : Option ModuleFault) → None ≡ faults_in ss → bodies_in ss ≡ bodies ms t.body → ms ≡ latest_first t.modules → o ≡ when (too_large t) TooLarge → o ≡ rule_fault t
rule_size t ms ss o h b m e = e ∙ ap (λ x. option_or x (when (too_large t) TooLarge)) (h ∙ of_text t ms ss b m)

pub size_is : (t : PlainText) (ms : List PlainModule) (body : List Entry) (o : Option ModuleFault) → ((p : List ℕ) (a : Around) → o ≡ when (exceeds_limits (flat_body ms p a body)) TooLarge) → body ≡ t.body → ms ≡ latest_first t.modules → o ≡ when (too_large t) TooLarge
size_is t ms body o h b m =
    h [] (inside t.attrs around_text) ∙ (ap (λ x. when (exceeds_limits (flat_body ms [] (inside t.attrs around_text) x)) TooLarge) b ∙ ap (λ y. when (exceeds_limits (flat_body y [] (inside t.attrs around_text) t.body)) TooLarge) m)
