use Rattle.std.proofs.Common.{ap, sym, ◌∙◌, is_some}
use Rattle.blue_names.proofs.NameTables.{missing_there, missing_not_there}
use Rattle.blue_names.proofs.names.missing.Goals as goal

pub returns-then-is_some : goal.returns-then-is_some
returns-then-is_some c = λ names n. missing_there c.args.table.now c.args.name.now names n (sym (ap is_some c.find.ensures) ∙ sym c.is_some.ensures ∙ c.if-is_some.true)

pub returns-else-is_some : goal.returns-else-is_some
returns-else-is_some c = λ names n. missing_not_there c.args.table.now c.args.name.now names n (sym (ap is_some c.find.ensures) ∙ sym c.is_some.ensures ∙ c.if-is_some.false)
