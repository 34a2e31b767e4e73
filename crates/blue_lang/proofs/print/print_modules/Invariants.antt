use Rattle.std.proofs.Common.{◌≡◌, ◌++◌, drop, map}
use Rattle.std.specs.List.{flat_map}
use Rattle.blue_modules.specs.Text.{plain_module}
use Rattle.blue_lang.specs.Canonical.{module_lines, declared_text}
use Rattle.blue_lang.proofs.print.print_modules.Given as goal

abbrev pub invariant-loop-of : goal.invariant-loop-of
invariant-loop-of l =
    l.out.items ++ declared_text (flat_map module_lines (map plain_module (drop l.of-index l.modules))) ≡ l.initial.out.items ++ declared_text (flat_map module_lines (map plain_module l.modules))
