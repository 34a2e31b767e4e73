-- The goals of `ends::crossings_of` that the search leaves.
use Rattle.std.proofs.Common.{refl, arith}
use Rattle.island_plans.proofs.LaneMaking.{lane_at, crosses_first, crosses_next, crosses_last}
use Rattle.island_plans.proofs.lane_ends.crossings_of.Goals as goal

pub loop-n-init : goal.loop-n-init
loop-n-init c = crosses_first c.args.lanes.now c.args.outs.now c.args.ins.now _ c.new-crossings.ensures.items

pub loop-n-preserved : goal.loop-n-preserved
loop-n-preserved c = crosses_next c.args.lanes.now c.args.outs.now c.args.ins.now c.loop-n.n _ _ _ _ c.loop-n.invariant (lane_at _ _ c.loop-n-test.true) c.in_ok-push.ensures.items refl c.in_ok-numbered.ensures.number refl c.in_ok-numbered-2.ensures.number

pub returns : goal.returns
returns c = crosses_last c.args.lanes.now c.args.outs.now c.args.ins.now c.loop-n.n _ (omega (arith, c.loop-n-test.false, c.loop-n.auto.n-end)) c.loop-n.invariant
