-- The loop of `peers::paired`.
use Rattle.island_plans.proofs.Pairing.{PairedTo}
use Rattle.island_plans.proofs.peers.paired.Given as goal

-- the peers of the islands so far
abbrev pub invariant-loop-k : goal.invariant-loop-k
invariant-loop-k l = PairedTo l.ins l.outs l.k l.all.items
