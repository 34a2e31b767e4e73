use Rattle.std.proofs.Common.{sym, ◌∙◌}
use Rattle.blue_names.proofs.NameTables.{both_known, from_lacked, to_lacked}
use Rattle.blue_names.proofs.links.link_or_unknown.Goals as goal

pub returns-in-None-clause-unknown : goal.returns-in-None-clause-unknown
returns-in-None-clause-unknown c = from_lacked c.args.table.now c.args.nodes.now c.args.wire.now c.requires (sym c.in-None.is ∙ c.find.ensures)

pub returns-in-None-find-clause-unknown : goal.returns-in-None-find-clause-unknown
returns-in-None-find-clause-unknown c = to_lacked c.args.table.now c.args.nodes.now c.args.wire.now c.requires c.in-Some.from (sym c.in-Some.is ∙ c.find.ensures) (sym c.in-None-find.is ∙ c.find-in-Some.ensures)

pub returns-in-Some-find-clause-none : goal.returns-in-Some-find-clause-none
returns-in-Some-find-clause-none c =
    both_known c.args.table.now c.args.nodes.now c.args.wire.now c.requires c.in-Some.from c.in-Some-find.to (sym c.in-Some.is ∙ c.find.ensures) (sym c.in-Some-find.is ∙ c.find-in-Some.ensures)
