-- The loops of `whole::whole_homes`.
use Rattle.std.proofs.Common.{◌≡◌, ◌++◌, map, drop}
use Rattle.blue_check.specs.declared.plan.LanePlan.{LanePlan}
use Rattle.island_parts.proofs.whole.whole_homes.Given as goal

-- with what is left they are all
abbrev pub invariant-entries : goal.invariant-entries
invariant-entries l = l.all.items ++ map (λ (l : LanePlan). l.to) (drop l.lane-index l.lanes) ≡ l.fn.homes.items ++ map (λ (l : LanePlan). l.to) l.lanes

abbrev pub invariant-exits : goal.invariant-exits
invariant-exits l = l.all.items ++ map (λ (l : LanePlan). l.from) (drop l.lane-index l.lanes) ≡ (l.fn.homes.items ++ map (λ (l : LanePlan). l.to) l.lanes) ++ map (λ (l : LanePlan). l.from) l.lanes
