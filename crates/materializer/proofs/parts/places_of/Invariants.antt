-- The loop of `parts::places_of`.
use Rattle.std.proofs.Common.{◌≡◌, ◌++◌, drop}
use Rattle.materializer.specs.Planned.{places_from}
use Rattle.materializer.proofs.parts.places_of.Given as goal

-- with those of the nodes that are left they are all
abbrev pub invariant-loop-i : goal.invariant-loop-i
invariant-loop-i l = l.places.items ++ places_from l.wires l.i (drop l.i l.nodes) ≡ places_from l.wires 0 l.nodes
