-- The receipt of a blueprint's run.
use Rattle.std.specs.Prelude.{◌≡◌, ℕ, Bool, not, List, length}
use Rattle.stream_model.specs.declared.blueprint.Blueprint.{Blueprint}
use Rattle.blue_check.specs.Wires.{blueprint_wires}
use Rattle.island_runs.specs.declared.ran.Ran.{Ran}
use Rattle.island_plans.specs.Homes.{AreNumberedHomes}

-- The blueprint has so many islands: each node is in one, and none is empty. Two nodes are in one exactly where a walk along wires
-- without a lane links them, so there is one such number.
pub record HasIslands (b : Blueprint) (count : ℕ) : Type 0 where
  pub homes : List ℕ
  pub numbered : AreNumberedHomes (length b.nodes.items) count (blueprint_wires b) homes

-- So many workers took turns at the islands of the blueprint, and so many units were used. An event was left or not.
pub record IsReceipt (b : Blueprint) (workers used : ℕ) (at_rest : Bool) (r : Ran) : Type 0 where
  pub workers_are : r.workers ≡ workers
  pub islands_are : HasIslands b r.islands
  pub used_is : r.used ≡ used
  pub more_is : r.more ≡ not at_rest
