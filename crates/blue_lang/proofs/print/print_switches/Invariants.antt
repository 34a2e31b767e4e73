use Rattle.std.proofs.Common.{◌≡◌, ◌++◌, drop, map}
use Rattle.blue_lang.specs.Declarations.{switch}
use Rattle.blue_lang.specs.Canonical.{declared_text}
use Rattle.blue_lang.proofs.print.print_switches.Given as goal

abbrev pub invariant-loop-switch : goal.invariant-loop-switch
invariant-loop-switch l =
    l.out.items ++ declared_text (map switch (drop l.switch-index l.switches)) ≡ l.initial.out.items ++ declared_text (map switch l.switches)
