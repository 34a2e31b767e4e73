use Rattle.std.proofs.Common.{◌≡◌, ◌++◌, drop, map}
use Rattle.blue_lang.specs.Declarations.{port}
use Rattle.blue_lang.specs.Canonical.{declared_text}
use Rattle.blue_lang.proofs.print.print_ports.Given as goal

abbrev pub invariant-loop-port : goal.invariant-loop-port
invariant-loop-port l =
    l.out.items ++ declared_text (map port (drop l.port-index l.ports)) ≡ l.initial.out.items ++ declared_text (map port l.ports)
