-- The loop of `peers::places`.
use Rattle.std.proofs.Common.{◌≡◌, take}
use Rattle.island_plans.proofs.peers.places.Given as goal

-- those so far
abbrev pub invariant-loop-home : goal.invariant-loop-home
invariant-loop-home l = l.all.items ≡ take l.home-index l.homes
