use Rattle.std.proofs.Common.{◌≡◌, ◌++◌, take, drop}
use Rattle.stage_out.specs.Copies.{served}
use Rattle.stage_out.proofs.copy_logic.settle.Given as goal

abbrev pub invariant-loop-i : goal.invariant-loop-i
invariant-loop-i l = l.outs ≡ served (take l.i l.initial.outs) ++ drop l.i l.initial.outs
