use Rattle.std.proofs.Common.{◌≡◌}
use Rattle.std.specs.Prelude.{replicate}
use Rattle.stage_core.specs.declared.outs.OutputState.TheVariants.{Quiet}
use Rattle.stage_core.proofs.outs.quiet_outs.Given as goal

abbrev pub invariant-loop : goal.invariant-loop
invariant-loop l = l.outs.items ≡ replicate l.counter Quiet
