use Rattle.std.proofs.Common.{map, take}
use Rattle.blue_names.specs.Table.{Numbers}
use Rattle.blue_names.proofs.table.table_of.Given as goal

abbrev pub invariant-loop-i : goal.invariant-loop-i
invariant-loop-i g l = Numbers l.table (map g.T.Named.text (take l.i l.items))
