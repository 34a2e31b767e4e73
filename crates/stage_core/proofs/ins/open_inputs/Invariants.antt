use Rattle.std.proofs.Common.{◌≡◌, false}
use Rattle.std.specs.Prelude.{replicate}
use Rattle.stage_core.proofs.ins.open_inputs.Given as goal

abbrev pub invariant-loop : goal.invariant-loop
invariant-loop l = l.over.items ≡ replicate l.counter false
