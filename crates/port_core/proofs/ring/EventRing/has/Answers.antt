-- The goals of `ring::EventRing::has` that the search leaves.
use Rattle.std.proofs.Common.{sym}
use Rattle.port_core.proofs.RingLemmas.{ring_kept}
use Rattle.port_core.proofs.ring.EventRing.has.Goals as goal

pub returns-then-c-len-clause-ring : goal.returns-then-c-len-clause-ring
returns-then-c-len-clause-ring c = rw (sym c.self.view_is) (ring_kept _ _ _ c.self.invariant)

pub returns-else-c-len-clause-ring : goal.returns-else-c-len-clause-ring
returns-else-c-len-clause-ring c = rw (sym c.self.view_is) (ring_kept _ _ _ c.self.invariant)
