-- What bodies know of the numbers of their nodes and wires, and which lane lies at which crossing.
use Rattle.std.specs.Prelude.{◌≡◌, ℕ, List, Some, map, slice_get}
use Rattle.stream_model.specs.Graph.{Edge}
use Rattle.interpreter.specs.Parts.{wire_number}
use Rattle.interpreter.specs.Picks.{place_number}
use Rattle.interpreter.specs.declared.parts.Seated.{Seated}
use Rattle.island_body.specs.declared.input.IslandInput.{IslandInput}
use Rattle.lane_core.specs.declared.crossing.Crossing.{Crossing}
use Rattle.blue_check.specs.declared.plan.LanePlan.{LanePlan}
use Rattle.bodies_run.specs.Islands.{seats_in, links_in}
use Rattle.island_body.specs.Keeping.{SameLanes}
use Rattle.island_body.specs.declared.body.Body.{Body}

module _ {S D L H B : Type 0} where
  -- the ends of a body are those of the same lanes as before
  abbrev pub HaveSameLanes : Body S D L H B → Body S D L H B → Type 0
  HaveSameLanes a b = SameLanes a.ins.items b.ins.items a.outs.items b.outs.items

  -- the island of a body has the numbers of its links' wires, and those of what stands at its places
  pub record IsNumberedBody (homes : List ℕ) (ws : List Edge) (nodes : List (Seated S D L H B)) (k : ℕ) (b : Body S D L H B) : Type 0 where
    pub wires : b.island.numbers ≡ map wire_number (links_in homes ws nodes k)
    pub places : b.island.places ≡ map place_number (seats_in homes ws nodes k)

  -- the island of each body has the numbers of its links' wires, and those of what stands at its places
  abbrev pub AreNumberedBodies : List ℕ → List Edge → List (Seated S D L H B) → List (Body S D L H B) → Type 0
  AreNumberedBodies homes ws nodes bodies = (k : ℕ) (b : Body S D L H B) → slice_get bodies k ≡ Some b → IsNumberedBody homes ws nodes k b

  -- at the crossing of each lane lies the input end of its wire
  abbrev pub AreAligned : List LanePlan → List Crossing → List (Body S D L H B) → Type 0
  AreAligned lanes crossings bodies = (n : ℕ) (l : LanePlan) (c : Crossing) (b : Body S D L H B) (x : IslandInput) → slice_get lanes n ≡ Some l
      → slice_get crossings n ≡ Some c → slice_get bodies c.to ≡ Some b → slice_get b.ins.items c.inp ≡ Some x → x.wire ≡ l.wire
