use Rattle.std.proofs.Common.{◌≡◌, take}
use Rattle.island_plans.specs.Ends.{homes_in}
use Rattle.island_plans.proofs.ends.homes_in.Given as goal

-- those of the nodes so far
abbrev pub invariant-loop-i : goal.invariant-loop-i
invariant-loop-i l = l.all.items ≡ homes_in l.list (take l.i l.nodes) (take l.i l.homes)
