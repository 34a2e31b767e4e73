use Rattle.std.proofs.Common.{◌≡◌, length}
use Rattle.workbench_top.specs.Comments.{has_notes}
use Rattle.workbench_top.proofs.comments.has_notes.Given as goal

abbrev pub invariant-loop-line : goal.invariant-loop-line
invariant-loop-line l = has_notes l.rest ≡ has_notes l.text

abbrev pub decreases-loop-line : goal.decreases-loop-line
decreases-loop-line l = length l.rest
