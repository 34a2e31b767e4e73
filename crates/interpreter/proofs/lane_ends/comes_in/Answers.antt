-- The goals of `lane_ends::comes_in` that the search leaves.
use Rattle.interpreter.proofs.LaneEnds.{comes_not, comes_past, comes_there}
use Rattle.interpreter.proofs.lane_ends.comes_in.Goals as goal

pub returns-in_default : goal.returns-in_default
returns-in_default g c = comes_not c.args.works.now c.args.place c.in-Some.seated.now c.in-Some.ensures.lookup.3.0 c.in-Some.ensures.lookup.1 c.in_default.not-LaneIn

pub returns-in-None : goal.returns-in-None
returns-in-None g c = comes_past c.args.works.now c.args.place c.in-None.ensures.lookup.3

pub returns-in-LaneIn : goal.returns-in-LaneIn
returns-in-LaneIn g c = comes_there c.args.works.now c.args.place c.in-LaneIn.field-0 c.in-Some.seated.now c.in-Some.ensures.lookup.3.0 c.in-Some.ensures.lookup.1 c.in-LaneIn.is
