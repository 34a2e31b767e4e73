-- The loop of `room::way_homes`.
use Rattle.std.proofs.Common.{◌≡◌, ◌++◌, map, drop}
use Rattle.blue_check.specs.declared.plan.LanePlan.{LanePlan}
use Rattle.island_plans.proofs.room.way_homes.Given as goal

-- with what is left they are all
abbrev pub invariant-loop-lane : goal.invariant-loop-lane
invariant-loop-lane l = l.homes.items ++ map (λ (l : LanePlan). l.to) (drop l.lane-index l.lanes) ≡ l.wires ++ map (λ (l : LanePlan). l.to) l.lanes
