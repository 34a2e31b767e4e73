-- The loop of `run::quiet_rounds`.
use Rattle.std.proofs.Common.{◌≡◌, ◌≤◌, ◌+◌}
use Rattle.std.specs.List.{sum_by}
use Rattle.lane_core.specs.Bodies.{AllOf, EachOf}
use Rattle.lane_core.proofs.run.quiet_rounds.Given as goal

abbrev pub invariant-rounds : goal.invariant-rounds
invariant-rounds g l = record {
  keeps : AllOf g.B.Turning.keeps l.bodies;
  goes : EachOf g.B.Turning.goes l.fn.bodies l.bodies;
  spent : sum_by g.B.Turning.spent l.bodies ≡ sum_by g.B.Turning.spent l.fn.bodies + l.used;
  within : l.used ≤ l.left;
}
