-- The loop of `parts::all_places`.
use Rattle.std.proofs.Common.{◌≡◌, map, take}
use Rattle.interpreter.specs.declared.parts.Place.{Place}
use Rattle.interpreter.proofs.parts.all_places.Given as goal

abbrev pub invariant-loop-place : goal.invariant-loop-place
invariant-loop-place l = l.numbers.items ≡ map (λ (p : Place). p.node) (take l.place-index l.places)
