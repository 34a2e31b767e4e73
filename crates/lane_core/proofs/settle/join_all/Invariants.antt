-- The loop of `settle::join_all`.
use Rattle.std.proofs.Common.{◌≤◌, ◌<◌, length}
use Rattle.lane_core.specs.Bodies.{EachOf}
use Rattle.lane_core.specs.Crossings.{LanesFrom, LaneEvent}
use Rattle.lane_core.proofs.settle.join_all.Given as goal

abbrev pub invariant-loop-n : goal.invariant-loop-n
invariant-loop-n g l = record {
  stands : EachOf g.B.Turning.stands l.fn.bodies l.bodies;
  goes : EachOf g.B.Turning.goes l.fn.bodies l.bodies;
  within : l.first ≤ length l.bodies;
  before : LanesFrom g.B.Turning.joined l.bodies l.lanes l.n l.first;
  event : l.first < length l.bodies → LaneEvent g.B.Turning.joined l.bodies l.lanes l.first;
}
