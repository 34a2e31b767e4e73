use Rattle.std.proofs.Common.{◌≡◌, ◌++◌, take, drop, map}
use Rattle.stage_in.specs.Takings.{followed_by}
use Rattle.stage_in.proofs.taking.relink.Given as goal

abbrev pub invariant-loop-c : goal.invariant-loop-c
invariant-loop-c l = l.next ≡ map (followed_by l.from l.to) (take l.c l.initial.next) ++ drop l.c l.initial.next
