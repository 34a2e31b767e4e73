use Rattle.std.proofs.Common.{◌≡◌, ◌++◌, length}
use Rattle.workbench_top.specs.Comments.{uncommented}
use Rattle.workbench_top.proofs.comments.uncommented.Given as goal

abbrev pub invariant-loop-line : goal.invariant-loop-line
invariant-loop-line l = l.out.items ++ uncommented l.rest ≡ uncommented l.text

abbrev pub decreases-loop-line : goal.decreases-loop-line
decreases-loop-line l = length l.rest
