-- The goals of `lane_ends::goes_out` that the search leaves.
use Rattle.interpreter.proofs.LaneEnds.{goes_not, goes_past, goes_there}
use Rattle.interpreter.proofs.lane_ends.goes_out.Goals as goal

pub returns-in_default : goal.returns-in_default
returns-in_default g c = goes_not c.args.works.now c.args.place c.in-Some.seated.now c.in-Some.ensures.lookup.3.0 c.in-Some.ensures.lookup.1 c.in_default.not-LaneOut

pub returns-in-None : goal.returns-in-None
returns-in-None g c = goes_past c.args.works.now c.args.place c.in-None.ensures.lookup.3

pub returns-in-LaneOut : goal.returns-in-LaneOut
returns-in-LaneOut g c = goes_there c.args.works.now c.args.place c.in-LaneOut.field-0 c.in-Some.seated.now c.in-Some.ensures.lookup.3.0 c.in-Some.ensures.lookup.1 c.in-LaneOut.is
