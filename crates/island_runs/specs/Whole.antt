-- All that the bodies of a blueprint's islands leave, in order of its nodes and wires.
use Rattle.std.specs.Prelude.{◌≡◌, ℕ, List, ◌++◌, length, map}
use Rattle.stream_model.specs.Composed.{count_from}
use Rattle.stream_model.specs.Graph.{Edge}
use Rattle.port_core.specs.Cell.{WireState}
use Rattle.nodes.specs.declared.node.IslandNode.{IslandNode}
use Rattle.interpreter.specs.Island.{sinks_of, readers_of, writers_of}
use Rattle.interpreter.specs.Picks.{place_number, pick_of, picks_of}
use Rattle.interpreter.specs.Misfits.{FindsMisfit, IsLeast}
use Rattle.interpreter.specs.Seats.{seats_of}
use Rattle.interpreter.specs.declared.island.IslandEnd.{IslandEnd}
use Rattle.interpreter.specs.declared.parts.Seated.{Seated}
use Rattle.blue_check.specs.Plan.{lanes_from}
use Rattle.island_parts.specs.Whole.{whole_seats}
use Rattle.island_plans.specs.Ends.{wire_home}
use Rattle.bodies_run.specs.Islands.{place_homes}
use Rattle.island_parts.specs.Ends.{Whole}
use Rattle.bodies_run.specs.Counts.{told_from}

-- the nodes of the blueprint and the ends of its lanes, with the numbers of what was handed in for them, and its wires, which stand so at
-- their outputs
abbrev pub whole_of : {S D L H B : Type 0} → List ℕ → List Edge → List (Seated S D L H B) → (ℕ → WireState) → List (IslandNode S D L H B) → List (IslandNode S D L H B)
    → Whole S D L H B
whole_of homes ws nodes near last ends = record {
  homes = place_homes homes ws;
  nodes = last ++ ends;
  numbers = map place_number (whole_seats nodes (lanes_from homes 0 ws));
  wire_homes = map (wire_home homes) ws;
  counts = told_from near 0 ws;
}

-- this is left by these nodes, in their order, and by wires that stand so at their outputs
pub record IsLeftBy {S D L H B : Type 0} (ws : List Edge) (near : ℕ → WireState) (nodes : List (IslandNode S D L H B)) (e : IslandEnd S D) : Type 0 where
  pub sinks : e.sinks.items ≡ sinks_of nodes
  pub picks : map pick_of e.picks.items ≡ picks_of (count_from 0 (length nodes)) nodes
  pub misfit : IsLeast (FindsMisfit (count_from 0 (length nodes)) nodes) e.misfit
  pub seats : e.seats.items ≡ seats_of (count_from 0 (length nodes)) nodes
  pub wires : e.wires.items ≡ told_from near 0 ws
  pub readers : e.readers.items ≡ readers_of nodes
  pub writers : e.writers.items ≡ writers_of nodes
