-- The loop of `asked::note_asked`.
use Rattle.island_plans.proofs.Noting.{NotedTo}
use Rattle.island_plans.proofs.asked.note_asked.Given as goal

-- the lanes so far are noted
abbrev pub invariant-loop-n : goal.invariant-loop-n
invariant-loop-n l = NotedTo l.all l.lanes l.initial.counts l.n l.counts
