use Rattle.std.proofs.Common.{◌∙◌, sym}
use Rattle.blue_names.proofs.PortTables.{noted_free, noted_again, none_of}
use Rattle.blue_names.proofs.ports.note_port.Goals as goal

pub returns-in_ok-insert : goal.returns-in_ok-insert
returns-in_ok-insert c =
    noted_again c.args.table.now c.insert.new.self c.args.node c.args.port c.args.wire c.in_ok-first.ensures.updates c.insert-in-Some.new.self c.in-Some.first c.in_ok-insert.ensures.updates (sym c.in-Some.is ∙ c.in_ok-first.ensures.old)

pub returns-in_default : goal.returns-in_default
returns-in_default c =
    noted_free c.args.table.now c.insert.new.self c.args.node c.args.port c.args.wire c.in_ok-first.ensures.updates (sym (none_of c.in_ok-first.field-0 c.in_default.not-Some) ∙ c.in_ok-first.ensures.old)
