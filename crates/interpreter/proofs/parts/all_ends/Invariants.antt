-- The loop of `parts::all_ends`.
use Rattle.std.proofs.Common.{◌≡◌, map, take}
use Rattle.interpreter.specs.Parts.{ends_of}
use Rattle.interpreter.proofs.parts.all_ends.Given as goal

abbrev pub invariant-loop-link : goal.invariant-loop-link
invariant-loop-link l = l.ends.items ≡ map ends_of (take l.link-index l.links)
