-- The loop of `run::run_on`.
use Rattle.std.proofs.Common.{◌≡◌, ◌≤◌, ◌-◌}
use Rattle.std.specs.List.{sum_by}
use Rattle.lane_core.specs.Bodies.{AllOf, EachOf}
use Rattle.lane_core.specs.Crossings.{AreCrossings}
use Rattle.lane_core.proofs.run.run_on.Given as goal

abbrev pub invariant-loop-used : goal.invariant-loop-used
invariant-loop-used g l = record {
  keeps : AllOf g.B.Turning.keeps l.bodies;
  goes : EachOf g.B.Turning.goes l.fn.bodies l.bodies;
  spent : l.used ≡ sum_by g.B.Turning.spent l.bodies;
  within : l.used ≤ l.budget;
  lanes : AreCrossings g.B.Meet.may_meet l.bodies l.lanes;
}

abbrev pub decreases-loop-used : goal.decreases-loop-used
decreases-loop-used g l = l.budget - l.used
