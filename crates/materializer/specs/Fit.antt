-- Which blueprints can be run.
use Rattle.std.specs.Prelude.{ℕ, List}
use Rattle.stream_model.specs.declared.blueprint.Blueprint.{Blueprint}
use Rattle.stream_model.specs.Known.{HeadLists}
use Rattle.blue_check.specs.Fitness.{IsFit}

-- a blueprint that can be run, whether its wires have lanes or not: it breaks no rule, by some plugs, some custom stages and some files that were taken
pub record CanRun (b : Blueprint) : Type 0 where
  pub heads : HeadLists
  pub taken : List (List ℕ)
  pub fit : IsFit b heads taken
