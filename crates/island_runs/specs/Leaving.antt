-- What the run of a blueprint leaves, by an account of its nodes and wires at its end. Where they stood, in one island or in many,
-- it does not say.
use Rattle.std.specs.Prelude.{◌≡◌, ℕ, ◌+◌, ◌≤◌, false, IsTrue, List, map, length, slice_get, Some}
use Rattle.stream_model.specs.declared.blueprint.Blueprint.{Blueprint}
use Rattle.blue_check.specs.Wires.{blueprint_wires}
use Rattle.stream_model.specs.Composed.{count_from}
use Rattle.stream_model.specs.Graph.{Graph, Edge}
use Rattle.stream_model.specs.Shape.{count_needed}
use Rattle.port_core.specs.declared.view.InView.TheVariants.{Cancelled}
use Rattle.port_core.specs.declared.view.OutView.TheVariants as outlet
use Rattle.stream_io.specs.State.{SourceState, DrainState}
use Rattle.nodes.specs.declared.node.IslandNode.{IslandNode}
use Rattle.nodes.specs.declared.node.IslandNode.TheVariants.{Writing}
use Rattle.nodes.specs.Nodes.{KeepsNode}
use Rattle.nodes.specs.Sink.{Sink, sink_late, sink_room}
use Rattle.fused_net.specs.Laws.{AllKept}
use Rattle.interpreter.specs.declared.island.IslandEnd.{IslandEnd}
use Rattle.interpreter.specs.declared.parts.Seated.{Seated}
use Rattle.interpreter.specs.Parts.{AllBecome}
use Rattle.interpreter.specs.Picks.{pick_of, picks_of}
use Rattle.interpreter.specs.Misfits.{FindsMisfit, IsLeast}
use Rattle.interpreter.specs.Island.{sinks_of, readers_of, writers_of}
use Rattle.run_laws.specs.Account.{Account, IsStill}
use Rattle.run_laws.specs.Pictures.{picture_counts}
use Rattle.run_laws.specs.Runs.{IsRun}
use Rattle.run_laws.specs.Telling.{AreSettled}
use Rattle.materializer.specs.Graphs.{graph_of, around_of}
use Rattle.materializer.specs.Seats.{AreSeats, gather_of}
pub use Rattle.bodies_run.specs.Counts.{all_sent, taken_off}
use Rattle.island_runs.specs.declared.run.Stopped.{Stopped}
use Rattle.island_runs.specs.declared.run.Broken.{Broken}
use Rattle.island_runs.specs.declared.run.Broken.TheVariants.{Unmade, Within}
use Rattle.stream_model.specs.Linear.{Book}

-- A moment of the run of a blueprint between two events, by its account: in the order of the blueprint the nodes were handed in as
-- what stands at these places, over these sources and these drains, and are these now.
pub record Moment {S D L H B : Type 0} (sources : S → SourceState) (drains : D → DrainState) (book : Book) (b : Blueprint) (ss : List S) (ds : List D)
    (account : Account (IslandNode S D L H B)) (nodes : List (IslandNode S D L H B)) : Type 0 where
  pub places : List (Seated S D L H B)
  pub seats : AreSeats (around_of b) 0 b.nodes.items ss ds places
  pub firsts : List (IslandNode S D L H B)
  pub become : AllBecome places firsts
  pub first_at : (k : ℕ) → account.firsts k ≡ slice_get firsts k
  pub node_at : (k : ℕ) → account.nodes k ≡ slice_get nodes k
  pub as_many : length nodes ≡ length firsts
  pub run : IsRun sources drains book (graph_of b) account

-- A cancel crosses a lane from its input: where the connection at a lane's output is cancelled, the node at its input had cancelled.
abbrev pub CancelsCross : {N : Type 0} → Graph → Account N → Type 0
CancelsCross g a = (u : ℕ) (v : Edge) (size : ℕ) → slice_get g.wires u ≡ Some v → v.lane ≡ Some size → (a.near u).wire.inp ≡ Cancelled
    → (a.far u).wire.out ≡ outlet.Cancelled

-- The run was one of so many units at most, and was taken apart. No event is left where it says so, and else all units were used. The
-- seats of its valves and trips were settled. No lane was cancelled but by the node at its input. A sink to which one wire leads had room
-- for as many lines as that lets it put together, and where no event is left none has put lines off.
-- At least so many were used as elements were pushed and were taken off lanes, and one less at least for each wire than its part of the count over what was
-- sent.
pub record RunLeaves {S D : Type 0} (L H B : Type 0) (sources : S → SourceState) (drains : D → DrainState) (book : Book) (b : Blueprint) (ss : List S)
    (ds : List D) (budget : ℕ) (s : Stopped S D) : Type 0 where
  pub account : Account (IslandNode S D L H B)
  pub nodes : List (IslandNode S D L H B)
  pub moment : Moment sources drains book b ss ds account nodes
  pub still : IsTrue s.at_rest → IsStill (graph_of b) account
  pub settled : AreSettled (graph_of b) account
  pub cancels : CancelsCross (graph_of b) account
  pub roomed : (k u : ℕ) (v : Edge) (first : Sink D) → account.firsts k ≡ Some (Writing first) → slice_get (blueprint_wires b) u ≡ Some v → v.to ≡ k
      → ((j : ℕ) (x : Edge) → slice_get (blueprint_wires b) j ≡ Some x → x.to ≡ k → j ≡ u) → first.gather.room ≡ sink_room first.writes (gather_of v.lane)
  pub none_late : IsTrue s.at_rest → (k : ℕ) (now : Sink D) → account.nodes k ≡ Some (Writing now) → sink_late now ≡ 0
  pub sinks : s.end.sinks.items ≡ sinks_of nodes
  pub picks : map pick_of s.end.picks.items ≡ picks_of (count_from 0 (length nodes)) nodes
  pub misfit : IsLeast (FindsMisfit (count_from 0 (length nodes)) nodes) s.end.misfit
  pub wires : s.wires.items ≡ picture_counts account (graph_of b)
  pub readers : s.end.readers.items ≡ readers_of nodes
  pub writers : s.end.writers.items ≡ writers_of nodes
  pub within : s.used ≤ budget
  pub spent : s.at_rest ≡ false → s.used ≡ budget
  pub least : all_sent (picture_counts account (graph_of b)) + taken_off (blueprint_wires b) (picture_counts account (graph_of b)) ≤ s.used
  pub most : s.used + length (blueprint_wires b) ≤ count_needed (graph_of b) (picture_counts account (graph_of b))

-- The run is one in which memory was wanting, and was taken apart. Since a last moment between two events each of its nodes has kept
-- what outlives that.
pub record LeavesBroken {S D : Type 0} (L H B : Type 0) (sources : S → SourceState) (drains : D → DrainState) (book : Book) (b : Blueprint) (ss : List S)
    (ds : List D) (e : IslandEnd S D) : Type 0 where
  pub account : Account (IslandNode S D L H B)
  pub last : List (IslandNode S D L H B)
  pub moment : Moment sources drains book b ss ds account last
  pub nodes : List (IslandNode S D L H B)
  pub kept : AllKept (KeepsNode sources drains) last nodes
  pub readers : e.readers.items ≡ readers_of nodes
  pub writers : e.writers.items ≡ writers_of nodes

-- these are the handles, each as it was handed in
pub record HasHandles {S D : Type 0} (sources : S → SourceState) (drains : D → DrainState) (ss : List S) (ds : List D) (e : IslandEnd S D) : Type 0 where
  pub readers : map sources e.readers.items ≡ map sources ss
  pub writers : map drains e.writers.items ≡ map drains ds

-- memory was wanting as the run started, or in it
abbrev pub LeavesBrokenAs : {S D : Type 0} → (L H B : Type 0) → (S → SourceState) → (D → DrainState) → Book → Blueprint → List S → List D → Broken S D → Type 0
LeavesBrokenAs L H B sources drains book b ss ds (Unmade e) = HasHandles sources drains ss ds e
LeavesBrokenAs L H B sources drains book b ss ds (Within e) = LeavesBroken L H B sources drains book b ss ds e

-- as many handles are in it as these
pub record HasAsMany {S D : Type 0} (ss : List S) (ds : List D) (e : IslandEnd S D) : Type 0 where
  pub readers : length e.readers.items ≡ length ss
  pub writers : length e.writers.items ≡ length ds
