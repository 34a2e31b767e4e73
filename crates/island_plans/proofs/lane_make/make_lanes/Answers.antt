-- The goals of `make::make_all` that the search leaves.
use Rattle.std.proofs.Common.{arith}
use Rattle.island_plans.proofs.LaneMaking.{lane_at, making_first, making_next, making_last}
use Rattle.island_plans.proofs.lane_make.make_lanes.Goals as goal

pub make-requires : goal.make-requires
make-requires c = c.requires c.loop-plan.plan-index _ (lane_at _ _ c.loop-plan-test.true)

pub loop-plan-init : goal.loop-plan-init
loop-plan-init c = making_first c.args.lanes.now _ _ c.new-outs.ensures.items c.new-ins.ensures.items

pub loop-plan-preserved : goal.loop-plan-preserved
loop-plan-preserved c = making_next c.args.lanes.now c.loop-plan.plan-index _ _ _ _ _ c.in_ok-out.out c.in_ok-out.inp c.loop-plan.invariant (lane_at _ _ c.loop-plan-test.true) c.in_ok-push.ensures.items c.in_ok-push-2.ensures.items c.in_ok-out.ensures

pub returns : goal.returns
returns c = making_last c.args.lanes.now c.loop-plan.plan-index _ _ (omega (arith, c.loop-plan-test.false, c.loop-plan.auto.plan-index-end)) c.loop-plan.invariant
