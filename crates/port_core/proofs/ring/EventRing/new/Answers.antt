-- The goals of `ring::EventRing::new` that the search leaves.
use Rattle.std.proofs.Common.{rules}
use Rattle.port_core.proofs.RingLemmas.{fresh}
use Rattle.port_core.proofs.ring.EventRing.new.Goals as goal

pub invariant_of-result : goal.invariant_of-result
invariant_of-result c = fresh c.args.n _ _ _ c.in_ok-queue.ensures.items (search (rules, c.in_ok-marks.ensures.items_if_clones_equal)) (search rules)
