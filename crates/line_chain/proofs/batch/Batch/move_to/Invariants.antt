use Rattle.std.proofs.Common.{◌≡◌, ◌++◌, length}
use Rattle.line_chain.proofs.batch.Batch.move_to.Given as goal

-- what was moved, and then what is left, is all
abbrev pub invariant-loop-e : goal.invariant-loop-e
invariant-loop-e l = l.to ++ l.self ≡ l.fn.to ++ l.fn.self

abbrev pub decreases-loop-e : goal.decreases-loop-e
decreases-loop-e l = length l.self
