-- The bodies that were made of a blueprint's islands and of the ends of the lanes between them.
use Rattle.std.specs.Prelude.{◌≡◌, ℕ, List, Some, length, slice_get}
use Rattle.stream_io.specs.State.{SourceState, DrainState}
use Rattle.stream_model.specs.Graph.{Edge}
use Rattle.interpreter.specs.Island.{Kept}
use Rattle.interpreter.specs.declared.parts.Parts.{Parts}
use Rattle.interpreter.specs.declared.parts.Seated.{Seated}
use Rattle.scatter.specs.Shares.{items_at}
use Rattle.island_plans.specs.declared.lane_ends.AllEnds.{AllEnds}
use Rattle.bodies_run.specs.Islands.{seats_in, links_in}
use Rattle.island_parts.specs.Starts.{HasStarted}
use Rattle.island_body.specs.Ends.{IslandGoes}
use Rattle.island_body.specs.Keeping.{BodyKeeps, SameLanes}
use Rattle.island_body.specs.declared.body.Body.{Body}
use Rattle.stream_model.specs.Linear.{Book}

-- these are the parts of island k: what stands at its places, and its links
pub record ArePartsOf {S D L H B : Type 0} (homes : List ℕ) (ws : List Edge) (nodes : List (Seated S D L H B)) (k : ℕ) (x : Parts S D L H B) : Type 0 where
  pub nodes_are : x.nodes.items ≡ seats_in homes ws nodes k
  pub links_are : x.links.items ≡ links_in homes ws nodes k

module _ {S D L H B : Type 0} (sources : S → SourceState) (drains : D → DrainState) (book : Book) (homes : List ℕ) (ws : List Edge)
    (nodes : List (Seated S D L H B)) where
  -- Island k had started, and this body was made of it and of those ends of lanes that are its own.
  pub record IsMadeOf (e : AllEnds) (k : ℕ) (b : Body S D L H B) : Type 0 where
    pub parts : Parts S D L H B
    pub island : Kept S D L H B
    pub parts_are : ArePartsOf homes ws nodes k parts
    pub started : HasStarted sources drains book parts island
    pub keeps : BodyKeeps sources drains book b
    pub goes : IslandGoes island b.island
    pub lanes : SameLanes (items_at e.ins.items k) b.ins.items (items_at e.outs.items k) b.outs.items

  -- of each of so many islands a body
  pub record AreMadeOf (count : ℕ) (e : AllEnds) (bodies : List (Body S D L H B)) : Type 0 where
    pub many : length bodies ≡ count
    pub each : (k : ℕ) (b : Body S D L H B) → slice_get bodies k ≡ Some b → IsMadeOf e k b
