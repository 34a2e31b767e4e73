use Rattle.std.proofs.Common.{◌≡◌, ◌++◌, length}
use Rattle.line_chain.proofs.batch.Batch.add_all.Given as goal

-- what was moved, and then what is left, is all
abbrev pub invariant-loop-e : goal.invariant-loop-e
invariant-loop-e l = l.self ++ l.from ≡ l.fn.self ++ l.fn.from

abbrev pub decreases-loop-e : goal.decreases-loop-e
decreases-loop-e l = length l.from
