use Rattle.std.proofs.Common.{◌≡◌, drop}
use Rattle.std.specs.Prelude.{max}
use Rattle.materializer.specs.Ports.{used_outputs}
use Rattle.materializer.proofs.parts.used_outputs.Given as goal

abbrev pub invariant-loop-wire : goal.invariant-loop-wire
invariant-loop-wire l = max l.most (used_outputs (drop l.wire-index l.wires) l.name) ≡ used_outputs l.wires l.name
