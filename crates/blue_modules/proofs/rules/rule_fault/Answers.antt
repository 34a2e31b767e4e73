use Rattle.std.proofs.Common.{sym, ap, ◌∙◌}
use Rattle.blue_modules.specs.Counts.{counted_modules}
use Rattle.blue_modules.specs.Text.{plain_text}
use Rattle.blue_modules.specs.Rules.{bodies}
use Rattle.blue_modules.specs.ScopeFaults.{faults_in}
use Rattle.blue_modules.proofs.Scoping.{rule_found, rule_size, size_is}
use Rattle.blue_modules.proofs.rules.rule_fault.Goals as goal

pub returns-in-Some : goal.returns-in-Some
returns-in-Some c =
    let found = sym c.in-Some.is ∙ (c.in_ok-fault.ensures ∙ ap faults_in c.deref.ensures.value) in
    let all = c.in_ok-scopes.ensures ∙ ap (λ x. bodies (counted_modules c.args.book.now) x) c.requires.own in
    rule_found (plain_text c.args.text.now) (counted_modules c.args.book.now) c.in_ok-scopes.scopes.items c.in-Some.fault found all c.requires.modules

pub returns : goal.returns
returns c =
    let none = sym c.in-None.is ∙ (c.in_ok-fault.ensures ∙ ap faults_in c.deref.ensures.value) in
    let all = c.in_ok-scopes.ensures ∙ ap (λ x. bodies (counted_modules c.args.book.now) x) c.requires.own in
    let size = size_is (plain_text c.args.text.now) (counted_modules c.args.book.now) c.deref-in-None.result.now c.size_fault.result c.size_fault.ensures c.deref-in-None.ensures.value c.requires.modules in
    rule_size (plain_text c.args.text.now) (counted_modules c.args.book.now) c.in_ok-scopes.scopes.items c.size_fault.result none all c.requires.modules size
