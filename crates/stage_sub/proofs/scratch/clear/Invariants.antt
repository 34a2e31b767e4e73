use Rattle.std.proofs.Common.{length}
use Rattle.stage_sub.proofs.scratch.clear.Given as goal

abbrev pub decreases-loop : goal.decreases-loop
decreases-loop l = length l.scratch
