use Rattle.stage_in.proofs.Links.{Begun}
use Rattle.stage_in.proofs.taking.ring.Given as goal

abbrev pub invariant-loop-c : goal.invariant-loop-c
invariant-loop-c l = Begun l.inputs l.next.items l.c
