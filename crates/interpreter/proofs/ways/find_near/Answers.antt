-- The goal of `ways::find_near` that the search leaves.
use Rattle.interpreter.proofs.Listing.{place_got}
use Rattle.interpreter.proofs.ways.find_near.Goals as goal

pub returns-then-lane-wire : goal.returns-then-lane-wire
returns-then-lane-wire c = place_got c.args.lanes.now c.args.near c.args.wire c.in-Some.lane.now c.in-Some.ensures.lookup.3.0 c.in-Some.ensures.lookup.1 c.requires c.if-lane-wire.true
