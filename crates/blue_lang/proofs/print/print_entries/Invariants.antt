use Rattle.std.proofs.Common.{◌≡◌, ◌++◌, drop, map}
use Rattle.blue_lang.specs.Declarations.{part}
use Rattle.blue_lang.specs.Canonical.{declared_text}
use Rattle.blue_lang.proofs.print.print_entries.Given as goal

abbrev pub invariant-loop-entry : goal.invariant-loop-entry
invariant-loop-entry l =
    l.out.items ++ declared_text (map part (drop l.entry-index l.entries)) ≡ l.initial.out.items ++ declared_text (map part l.entries)
