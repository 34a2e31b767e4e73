-- The loop of `run::stir_lanes`.
use Rattle.lane_core.specs.Bodies.{EachOf}
use Rattle.lane_core.specs.Crossings.{QuietBelow}
use Rattle.lane_core.proofs.run.stir_lanes.Given as goal

abbrev pub invariant-loop-n : goal.invariant-loop-n
invariant-loop-n g l = record {
  stands : EachOf g.B.Turning.stands l.fn.bodies l.bodies;
  goes : EachOf g.B.Turning.goes l.fn.bodies l.bodies;
  quiet : QuietBelow g.B.Turning.joined l.bodies l.lanes l.n;
}
