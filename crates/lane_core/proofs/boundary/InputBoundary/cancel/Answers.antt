use Rattle.std.proofs.Common.{refl}
use Rattle.lane_core.proofs.Flows.{cancelled, at_lane}
use Rattle.lane_core.proofs.boundary.InputBoundary.cancel.Goals as goal

pub invariant_of-self-clause-flow : goal.invariant_of-self-clause-flow
invariant_of-self-clause-flow c =
    at_lane _ _ _ _ _ _ _ _ _ _ _ _ _ _ c.cancel.ensures.lane.0.1 c.cancel.ensures.lane.1 refl
    (cancelled _ _ _ _ _ _ _ _ _ _ _ c.args.self.now.flow _ _ _ _ c.drop_all.ensures.lost c.drop_all.ensures.none.0 refl c.cancel.ensures.cancelled.0)
