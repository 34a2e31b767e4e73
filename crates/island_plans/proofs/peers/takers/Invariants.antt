-- The loop of `peers::takers`.
use Rattle.std.proofs.Common.{◌≡◌, map, take}
use Rattle.blue_check.specs.declared.plan.LanePlan.{LanePlan}
use Rattle.island_plans.proofs.peers.takers.Given as goal

-- those of the lanes so far
abbrev pub invariant-loop-lane : goal.invariant-loop-lane
invariant-loop-lane l = l.all.items ≡ map (λ (l : LanePlan). l.to) (take l.lane-index l.lanes)
