-- The goals of `ring::EventRing::dequeue` that the search leaves.
use Rattle.std.proofs.Common.{rules}
use Rattle.port_core.proofs.RingLemmas.{dequeued, first_within, first_gone}
use Rattle.port_core.proofs.ring.EventRing.dequeue.Goals as goal

pub index_mut-requires : goal.index_mut-requires
index_mut-requires c = search (rules, first_within _ _ _ _ _ c.in_ok-c.ensures.items c.self.invariant)

pub invariant_of-self-2 : goal.invariant_of-self-2
invariant_of-self-2 c = rw c.in_ok-c.ensures.capacity (dequeued _ _ _ _ _ c.in_ok-c.ensures.items c.self.invariant)

pub returns-clause-once : goal.returns-clause-once
returns-clause-once c = (search (rules, first_within _ _ _ _ _ c.in_ok-c.ensures.items c.self.invariant), first_gone _ _ _ _ _ c.in_ok-c.ensures.items c.self.invariant)
