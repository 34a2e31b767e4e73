-- The loop of `make::make_all`.
use Rattle.island_plans.proofs.LaneMaking.{Making}
use Rattle.island_plans.proofs.lane_make.make_lanes.Given as goal

-- the ends of the lanes so far
abbrev pub invariant-loop-plan : goal.invariant-loop-plan
invariant-loop-plan l = Making l.lanes l.plan-index l.outs.items l.ins.items
