-- What the islands of a blueprint leave at their ends, and all of it in one.
use Rattle.std.specs.Prelude.{◌≡◌, ◌<◌, ℕ, Bool, true, false, Option, None, Some, List, [], ◌∷◌, ◌++◌, All, length, map, slice_get}
use Rattle.stream_model.specs.declared.outcome.EndState.{EndState}
use Rattle.stream_model.specs.declared.outcome.WireCount.{WireCount}
use Rattle.nodes.specs.Nodes.{node_picks, node_seat}
use Rattle.nodes.specs.declared.node.IslandNode.{IslandNode}
use Rattle.nodes.specs.declared.node.IslandNode.TheVariants as node
use Rattle.interpreter.specs.declared.island.IslandEnd.{IslandEnd}
use Rattle.interpreter.specs.Island.{sinks_of, readers_of, writers_of}
use Rattle.interpreter.specs.Picks.{pick_of, picks_of}
use Rattle.interpreter.specs.Misfits.{least_of, FindsMisfit, IsLeast}
use Rattle.interpreter.specs.Seats.{seats_of}
use Rattle.scatter.specs.Shares.{of_home}
use Rattle.island_parts.specs.declared.room.EndHomes.{EndHomes}

-- a home in front of others, where something is left there
abbrev pub with_home : {Y : Type 0} → Option Y → ℕ → List ℕ → List ℕ
with_home None h hs = hs
with_home (Some y) h hs = h ∷ hs

-- the homes of those of some items that leave something
abbrev pub homes_left : {X Y : Type 0} → (X → Option Y) → List ℕ → List X → List ℕ
homes_left f [] xs = []
homes_left f (h ∷ hs) [] = []
homes_left f (h ∷ hs) (x ∷ xs) = with_home (f x) h (homes_left f hs xs)

-- whether something is left
abbrev pub leaves_something : {Y : Type 0} → Option Y → Bool
leaves_something None = false
leaves_something (Some y) = true

-- the node, the count and the end of a sink; none of any other node
abbrev pub sink_of : {S D L H B : Type 0} → IslandNode S D L H B → Option (ℕ × ℕ × EndState)
sink_of (node.Reading x) = None
sink_of (node.Making x) = None
sink_of (node.Linear x) = None
sink_of (node.State x) = None
sink_of (node.Sub x) = None
sink_of (node.FanIn x) = None
sink_of (node.FanOut x) = None
sink_of (node.Custom x) = None
sink_of (node.Writing x) = Some (x.node, x.count, x.end)
sink_of (node.Ignoring x) = Some (x.node, 0, x.end)
sink_of (node.Entering x) = None
sink_of (node.Leaving x) = None

-- the source that a node leaves, where it is a source of lines
abbrev pub reader_of : {S D L H B : Type 0} → IslandNode S D L H B → Option S
reader_of (node.Reading x) = Some x.reader.source
reader_of (node.Making x) = None
reader_of (node.Linear x) = None
reader_of (node.State x) = None
reader_of (node.Sub x) = None
reader_of (node.FanIn x) = None
reader_of (node.FanOut x) = None
reader_of (node.Custom x) = None
reader_of (node.Writing x) = None
reader_of (node.Ignoring x) = None
reader_of (node.Entering x) = None
reader_of (node.Leaving x) = None

-- the drain that a node leaves, where it is a sink that has a file
abbrev pub writer_of : {S D L H B : Type 0} → IslandNode S D L H B → Option D
writer_of (node.Reading x) = None
writer_of (node.Making x) = None
writer_of (node.Linear x) = None
writer_of (node.State x) = None
writer_of (node.Sub x) = None
writer_of (node.FanIn x) = None
writer_of (node.FanOut x) = None
writer_of (node.Custom x) = None
writer_of (node.Writing x) = Some x.drain
writer_of (node.Ignoring x) = None
writer_of (node.Entering x) = None
writer_of (node.Leaving x) = None

-- a stage at an end of a lane
abbrev pub is_lane_end : {S D L H B : Type 0} → IslandNode S D L H B → Bool
is_lane_end (node.Reading x) = false
is_lane_end (node.Making x) = false
is_lane_end (node.Linear x) = false
is_lane_end (node.State x) = false
is_lane_end (node.Sub x) = false
is_lane_end (node.FanIn x) = false
is_lane_end (node.FanOut x) = false
is_lane_end (node.Custom x) = false
is_lane_end (node.Writing x) = false
is_lane_end (node.Ignoring x) = false
is_lane_end (node.Entering x) = true
is_lane_end (node.Leaving x) = true

-- each of these nodes is a stage at an end of a lane
abbrev pub AreLaneEnds : {S D L H B : Type 0} → List (IslandNode S D L H B) → Type 0
AreLaneEnds nodes = (k : ℕ) (x : IslandNode _ _ _ _ _) → slice_get nodes k ≡ Some x → is_lane_end x ≡ true

-- the nodes of all islands in order, with the island and the number of each: those of the blueprint, and behind them the ends of lanes;
-- and the counts at the outputs of all wires in order, with the island of each
pub record Whole (S D L H B : Type 0) : Type 0 where
  pub homes : List ℕ
  pub nodes : List (IslandNode S D L H B)
  pub numbers : List ℕ
  pub wire_homes : List ℕ
  pub counts : List (ℕ × WireCount)

-- The end of island k: what its nodes leave, and the counts of its wires, those at the inputs of lanes last.
pub record IsEndOf {S D L H B : Type 0} (w : Whole S D L H B) (k : ℕ) (e : IslandEnd S D) : Type 0 where
  pub sinks : e.sinks.items ≡ sinks_of (of_home w.homes k w.nodes)
  pub picks : map pick_of e.picks.items ≡ picks_of (of_home w.homes k w.numbers) (of_home w.homes k w.nodes)
  pub misfit : e.misfit ≡ least_of (of_home w.homes k w.numbers) (of_home w.homes k w.nodes)
  pub seats : e.seats.items ≡ seats_of (of_home w.homes k w.numbers) (of_home w.homes k w.nodes)
  pub readers : e.readers.items ≡ readers_of (of_home w.homes k w.nodes)
  pub writers : e.writers.items ≡ writers_of (of_home w.homes k w.nodes)
  pub fars : List (ℕ × WireCount)
  pub wires : e.wires.items ≡ of_home w.wire_homes k w.counts ++ fars

-- the ends of all islands
pub record AreEndsOf {S D L H B : Type 0} (w : Whole S D L H B) (ends : List (IslandEnd S D)) : Type 0 where
  pub below : All (λ h. h < length ends) w.homes
  pub wires_below : All (λ h. h < length ends) w.wire_homes
  pub nodes_each : length w.nodes ≡ length w.homes
  pub numbers_each : length w.numbers ≡ length w.homes
  pub counts_each : length w.counts ≡ length w.wire_homes
  pub each : (k : ℕ) (e : IslandEnd S D) → slice_get ends k ≡ Some e → IsEndOf w k e

-- these are the homes of what is left
pub record AreHomesOf {S D L H B : Type 0} (w : Whole S D L H B) (homes : EndHomes) : Type 0 where
  pub sinks : homes.sinks.items ≡ homes_left sink_of w.homes w.nodes
  pub wires : homes.wires.items ≡ w.wire_homes
  pub picks : homes.picks.items ≡ homes_left node_picks w.homes w.nodes
  pub seats : homes.seats.items ≡ homes_left node_seat w.homes w.nodes
  pub readers : homes.readers.items ≡ homes_left reader_of w.homes w.nodes
  pub writers : homes.writers.items ≡ homes_left writer_of w.homes w.nodes

-- all that the islands leave in one end
pub record IsWholeEnd {S D L H B : Type 0} (w : Whole S D L H B) (e : IslandEnd S D) : Type 0 where
  pub sinks : e.sinks.items ≡ sinks_of w.nodes
  pub wires : e.wires.items ≡ w.counts
  pub picks : map pick_of e.picks.items ≡ picks_of w.numbers w.nodes
  pub misfit : IsLeast (FindsMisfit w.numbers w.nodes) e.misfit
  pub seats : e.seats.items ≡ seats_of w.numbers w.nodes
  pub readers : e.readers.items ≡ readers_of w.nodes
  pub writers : e.writers.items ≡ writers_of w.nodes

-- The ends of all islands have these handles, each the share of its island.
pub record AreHandlesOf {S D : Type 0} (homes : EndHomes) (readers : List S) (writers : List D) (ends : List (IslandEnd S D)) : Type 0 where
  pub readers_below : All (λ h. h < length ends) homes.readers.items
  pub writers_below : All (λ h. h < length ends) homes.writers.items
  pub readers_each : length readers ≡ length homes.readers.items
  pub writers_each : length writers ≡ length homes.writers.items
  pub reader_shares : (k : ℕ) (e : IslandEnd S D) → slice_get ends k ≡ Some e → e.readers.items ≡ of_home homes.readers.items k readers
  pub writer_shares : (k : ℕ) (e : IslandEnd S D) → slice_get ends k ≡ Some e → e.writers.items ≡ of_home homes.writers.items k writers
