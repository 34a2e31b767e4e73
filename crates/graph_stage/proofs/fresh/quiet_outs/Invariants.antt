use Rattle.std.proofs.Common.{◌≡◌, replicate}
use Rattle.graph_stage.specs.Making.{quiet_out}
use Rattle.graph_stage.proofs.fresh.quiet_outs.Given as goal

abbrev pub invariant-loop-j : goal.invariant-loop-j
invariant-loop-j l = l.outs.items ≡ replicate l._j quiet_out
