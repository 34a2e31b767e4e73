-- The loop of `ends::crossings_of`.
use Rattle.island_plans.proofs.LaneMaking.{Crosses}
use Rattle.island_plans.proofs.lane_ends.crossings_of.Given as goal

-- where the ends of the lanes so far lie
abbrev pub invariant-loop-n : goal.invariant-loop-n
invariant-loop-n l = Crosses l.lanes l.outs l.ins l.n l.crossings.items
