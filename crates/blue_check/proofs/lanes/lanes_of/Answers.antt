use Rattle.blue_check.proofs.Numbers.{all_lanes_more}
use Rattle.blue_check.proofs.lanes.lanes_of.Goals as goal

pub loop-wire-preserved : goal.loop-wire-preserved
loop-wire-preserved c = all_lanes_more c.args.homes.now c.args.links.now c.loop-wire.wire _ _ _ c.loop-wire-test.true c.loop-wire.invariant c.in_ok-put_lane.ensures
