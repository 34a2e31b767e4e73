-- The loop of `parts::all_numbers`.
use Rattle.std.proofs.Common.{◌≡◌, map, take}
use Rattle.interpreter.specs.Parts.{wire_number}
use Rattle.interpreter.proofs.parts.all_numbers.Given as goal

abbrev pub invariant-loop-link : goal.invariant-loop-link
invariant-loop-link l = l.numbers.items ≡ map wire_number (take l.link-index l.links)
