use Rattle.std.proofs.Common.{◌≡◌, ◌++◌, drop, take}
use Rattle.std.specs.Prelude.{map}
use Rattle.graph_stage.specs.OwnView.{closed_in}
use Rattle.graph_stage.proofs.carrying.close_ins.Given as goal

abbrev pub invariant-loop-x : goal.invariant-loop-x
invariant-loop-x l = l.ins ≡ map closed_in (take l.x-index l.initial.ins) ++ drop l.x-index l.initial.ins
