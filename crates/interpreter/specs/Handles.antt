-- The handles of an island's places, and of what is handed back where it did not start.
use Rattle.std.specs.Prelude.{◌≡◌, Some, None, List, [], ◌∷◌, map}
use Rattle.stream_io.specs.State.{SourceState, DrainState}
use Rattle.interpreter.specs.declared.island.IslandEnd.{IslandEnd}
use Rattle.interpreter.specs.declared.island.StartEnd.{StartEnd}
use Rattle.interpreter.specs.declared.island.StartEnd.TheVariants.{NoMemory}
use Rattle.interpreter.specs.declared.parts.Seated.{Seated}
use Rattle.interpreter.specs.declared.parts.Work.{Work}
use Rattle.interpreter.specs.Island.{readers_of, writers_of}
use Rattle.nodes.specs.declared.node.IslandNode.{IslandNode}
use Rattle.interpreter.specs.declared.parts.Work.TheVariants.{Reading, Making, Linear, State, Sub, FanIn, FanOut, Custom, Writing, LaneIn, LaneOut}

-- the source of a reader, in front of others
abbrev pub with_source : {S D L H B : Type 0} → Work S D L H B → List S → List S
with_source (Reading r) rest = r.source ∷ rest
with_source (Making k) rest = rest
with_source (Linear l) rest = rest
with_source (State l) rest = rest
with_source (Sub l) rest = rest
with_source (FanIn l n) rest = rest
with_source (FanOut l n) rest = rest
with_source (Custom x n m) rest = rest
with_source (Writing k d) rest = rest
with_source (LaneIn u) rest = rest
with_source (LaneOut u) rest = rest

-- the drain of a sink with a file, in front of others
abbrev pub with_drain : {S D L H B : Type 0} → Work S D L H B → List D → List D
with_drain (Reading r) rest = rest
with_drain (Making k) rest = rest
with_drain (Linear l) rest = rest
with_drain (State l) rest = rest
with_drain (Sub l) rest = rest
with_drain (FanIn l n) rest = rest
with_drain (FanOut l n) rest = rest
with_drain (Custom x n m) rest = rest
with_drain (Writing k (Some d)) rest = d ∷ rest
with_drain (Writing k None) rest = rest
with_drain (LaneIn u) rest = rest
with_drain (LaneOut u) rest = rest

-- the sources of all places, in their order
abbrev pub sources_in : {S D L H B : Type 0} → List (Seated S D L H B) → List S
sources_in [] = []
sources_in (s ∷ ss) = with_source s.work (sources_in ss)

-- the drains of all places, in their order
abbrev pub drains_in : {S D L H B : Type 0} → List (Seated S D L H B) → List D
drains_in [] = []
drains_in (s ∷ ss) = with_drain s.work (drains_in ss)

-- Its handles are those that stand at these places, in their order, each as it was handed in.
pub record HandsBack {S D L H B : Type 0} (sources : S → SourceState) (drains : D → DrainState) (places : List (Seated S D L H B)) (e : IslandEnd S D)
    : Type 0 where
  pub readers : map sources e.readers.items ≡ map sources (sources_in places)
  pub writers : map drains e.writers.items ≡ map drains (drains_in places)

-- the handles of these nodes are those that stand at these places, in their order, each as it was handed in
pub record HoldsHandles {S D L H B : Type 0} (sources : S → SourceState) (drains : D → DrainState) (places : List (Seated S D L H B))
    (nodes : List (IslandNode S D L H B)) : Type 0 where
  pub readers : map sources (readers_of nodes) ≡ map sources (sources_in places)
  pub writers : map drains (writers_of nodes) ≡ map drains (drains_in places)

-- an island of these places did not start
abbrev pub DidNotStart : {S D L H B : Type 0} → (S → SourceState) → (D → DrainState) → List (Seated S D L H B) → StartEnd S D → Type 0
DidNotStart sources drains places (NoMemory e) = HandsBack sources drains places e
