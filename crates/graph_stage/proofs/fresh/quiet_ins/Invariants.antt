use Rattle.std.proofs.Common.{◌≡◌, replicate}
use Rattle.graph_stage.specs.Making.{quiet_in}
use Rattle.graph_stage.proofs.fresh.quiet_ins.Given as goal

abbrev pub invariant-loop-i : goal.invariant-loop-i
invariant-loop-i l = l.ins.items ≡ replicate l._i quiet_in
