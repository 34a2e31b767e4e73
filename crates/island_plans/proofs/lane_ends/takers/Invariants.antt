-- The loop of `ends::takers`.
use Rattle.std.proofs.Common.{◌≡◌, map, take}
use Rattle.blue_check.specs.declared.plan.LanePlan.{LanePlan}
use Rattle.island_plans.proofs.lane_ends.takers.Given as goal

-- those of the lanes so far
abbrev pub invariant-loop-lane : goal.invariant-loop-lane
invariant-loop-lane l = l.homes.items ≡ map (λ (l : LanePlan). l.to) (take l.lane-index l.lanes)
