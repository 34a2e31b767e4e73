use Rattle.std.proofs.Common.{take}
use Rattle.blue_modules.specs.Names.{ArePlaces}
use Rattle.blue_modules.proofs.entries.places_of.Given as goal

abbrev pub invariant-loop-i : goal.invariant-loop-i
invariant-loop-i l = ArePlaces l.places (take l.i l.entries)
