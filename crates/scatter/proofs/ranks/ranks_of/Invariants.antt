use Rattle.scatter.proofs.Putting.{Ranking}
use Rattle.scatter.proofs.ranks.ranks_of.Given as goal

-- the ranks so far
abbrev pub invariant-loop-i : goal.invariant-loop-i
invariant-loop-i l = Ranking l.homes l.fn.count l.i l.ranks.items l.counts.items
