use Rattle.std.proofs.Common.{sym, ap, ◌∙◌}
use Rattle.blue_modules.specs.declared.fault.ModuleFault.TheVariants.{TooLarge}
use Rattle.blue_modules.specs.Counts.{counted_modules}
use Rattle.blue_names.specs.First.{when}
use Rattle.blue_modules.proofs.Gathering.{passes_by_size}
use Rattle.blue_modules.proofs.rules.size_fault.Goals as goal

pub returns-then-is_too_large : goal.returns-then-is_too_large
returns-then-is_too_large c = λ prefix around.
    let size = c.body_size-size in
    let passed = passes_by_size size.result.nodes size.result.wires (counted_modules c.args.book.now) prefix around c.args.body.now size.ensures.nodes size.ensures.wires in
    ap (λ t. when t TooLarge) (sym c.if-is_too_large.true ∙ (c.is_too_large.ensures ∙ passed))

pub returns-else-is_too_large : goal.returns-else-is_too_large
returns-else-is_too_large c = λ prefix around.
    let size = c.body_size-size in
    let passed = passes_by_size size.result.nodes size.result.wires (counted_modules c.args.book.now) prefix around c.args.body.now size.ensures.nodes size.ensures.wires in
    ap (λ t. when t TooLarge) (sym c.if-is_too_large.false ∙ (c.is_too_large.ensures ∙ passed))
