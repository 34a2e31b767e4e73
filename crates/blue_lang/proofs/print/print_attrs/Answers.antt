use Rattle.blue_lang.proofs.Spacing.{spaced_behind}
use Rattle.blue_lang.proofs.print.print_attrs.Goals as goal

pub returns : goal.returns
returns c = spaced_behind _ _ _ _ _ c.in_ok-print_size.ensures c.in_ok-write_decider.ensures
