use Rattle.std.proofs.Common.{◌≡◌, drop}
use Rattle.std.specs.List.{list_all}
use Rattle.blue_modules.specs.Rules.{names_no_port}
use Rattle.blue_modules.proofs.ports.name_no_ports.Given as goal

abbrev pub invariant-loop-entry : goal.invariant-loop-entry
invariant-loop-entry l = list_all names_no_port l.entries ≡ list_all names_no_port (drop l.entry-index l.entries)
