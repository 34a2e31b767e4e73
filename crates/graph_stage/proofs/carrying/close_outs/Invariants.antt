use Rattle.std.proofs.Common.{◌≡◌, ◌++◌, drop, take}
use Rattle.std.specs.Prelude.{map}
use Rattle.graph_stage.specs.OwnView.{closed_out}
use Rattle.graph_stage.proofs.carrying.close_outs.Given as goal

abbrev pub invariant-loop-y : goal.invariant-loop-y
invariant-loop-y l = l.outs ≡ map closed_out (take l.y-index l.initial.outs) ++ drop l.y-index l.initial.outs
