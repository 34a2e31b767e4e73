-- The loop of `asked::asked_of`.
use Rattle.std.proofs.Common.{◌≤◌, length, vec_capacity}
use Rattle.island_plans.proofs.Noting.{AskedTo}
use Rattle.island_plans.proofs.asked.asked_of.Given as goal

-- of the crossings so far is told what was asked, and there is room for those of all
abbrev pub invariant-loop-crossing : goal.invariant-loop-crossing
invariant-loop-crossing g l = AskedTo l.bodies l.crossings l.crossing-index l.all.items × (length l.crossings ≤ vec_capacity l.all)
