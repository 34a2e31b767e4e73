-- What the picture of a run says of the units that were used.
use Rattle.std.specs.Prelude.{◌≡◌, ℕ, ◌+◌, ◌≤◌, List, length}
use Rattle.stream_model.specs.declared.blueprint.Blueprint.{Blueprint}
use Rattle.blue_check.specs.Wires.{blueprint_wires}
use Rattle.stream_model.specs.declared.outcome.WireCount.{WireCount}
use Rattle.stream_model.specs.Shape.{count_needed}
use Rattle.materializer.specs.Graphs.{graph_of}
use Rattle.island_runs.specs.Leaving.{all_sent, taken_off}

-- The picture has a count for each wire. Each element that was pushed took a unit of its own, that of the ask before it, and each that
-- was taken off a lane another: all that were sent there were taken, but for as many at most as the lane has places. And each wire
-- took one unit less at least than its part of the count over what was sent. So with a wire the units are below that count.
-- Choice: docs/DECISIONS.md#units-without-a-wire
pub record Pays (b : Blueprint) (wires : List WireCount) (used : ℕ) : Type 0 where
  pub counted : length wires ≡ length (blueprint_wires b)
  pub least : all_sent wires + taken_off (blueprint_wires b) wires ≤ used
  pub most : used + length (blueprint_wires b) ≤ count_needed (graph_of b) wires
