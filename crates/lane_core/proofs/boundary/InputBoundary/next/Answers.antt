use Rattle.lane_core.proofs.Flows.{may_refill, gave_elem, asks_on, at_lane}
use Rattle.lane_core.proofs.boundary.InputBoundary.next.Goals as goal

pub refill-asks-requires-clause-asks : goal.refill-asks-requires-clause-asks
refill-asks-requires-clause-asks c =
    may_refill _ _ _ _ _ _ _ _ _ _ _ c.args.self.now.flow _ _ _ _ c.args.self.now.asking _ _ c.in_ok-next_held.ensures.some c.args.self.now.lane.sized.1 _ c.requires.few

pub invariant_of-self-2-clause-flow : goal.invariant_of-self-2-clause-flow
invariant_of-self-2-clause-flow c =
    at_lane _ _ _ _ _ _ _ _ _ _ _ _ _ _ c.refill-asks.ensures.lane.0.1 c.refill-asks.ensures.lane.1 c.refill-asks.ensures.lane.2
    (gave_elem _ _ _ _ _ _ _ _ _ _ _ c.args.self.now.flow _ _ _ c.in_ok-next_held.ensures.some c.and.ensures)

pub invariant_of-self-2-clause-asking : goal.invariant_of-self-2-clause-asking
invariant_of-self-2-clause-asking c =
    asks_on _ _ _ _ _ _ _ _ _ _ _ _ _ c.args.self.now.asking c.refill-asks.ensures.lane.0.1 c.and.ensures c.refill-asks.ensures.asked c.refill-asks.ensures.less
