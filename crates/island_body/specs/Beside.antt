-- What an end of a lane leaves as it is when it acts: all but its own connection and its own stage.
use Rattle.std.specs.Prelude.{◌≡◌, ◌≢◌, ℕ, Option, None, Some, List, [], slice_get}
use Rattle.elem_core.specs.declared.item.Item.{Item}
use Rattle.nodes.specs.declared.node.IslandNode.{IslandNode}
use Rattle.nodes.specs.Nodes.{node_waits}
use Rattle.fused_net.specs.Net.{end_at, wire_at}
use Rattle.fused_net.specs.Laws.{NetGoesOn}
use Rattle.interpreter.specs.Island.{Kept}
use Rattle.interpreter.specs.Boundary.{way_in, way_out}

module _ {S D L H B : Type 0} where
  -- the place of the stage at which the lane that is wire u goes out
  abbrev pub out_node : Kept S D L H B → ℕ → ℕ
  out_node i u = (end_at i.net.ends (way_out i u)).to

  -- the place of the stage at which the lane that is wire u comes in
  abbrev pub in_node : Kept S D L H B → ℕ → ℕ
  in_node i u = (end_at i.net.ends (way_in i u)).from

  -- what waits at a node to leave the island
  abbrev pub waits_of : Option (IslandNode S D L H B) → List Item
  waits_of None = []
  waits_of (Some x) = node_waits x

  -- and where the lane that is wire u goes out
  abbrev pub waiting : Kept S D L H B → ℕ → List Item
  waiting i u = waits_of (slice_get i.net.nodes (out_node i u))

  -- the island went on, and all its other connections than that at place q, and its other nodes than node n, are as they were
  pub record Beside (q n : ℕ) (old new : Kept S D L H B) : Type 0 where
    pub cells : (p : ℕ) → p ≢ q → wire_at new.net p ≡ wire_at old.net p
    pub nodes : (k : ℕ) → k ≢ n → slice_get new.net.nodes k ≡ slice_get old.net.nodes k
    pub on : NetGoesOn old.net new.net
    pub ins : new.ins ≡ old.ins
    pub outs : new.outs ≡ old.outs
    pub numbers : new.numbers ≡ old.numbers
    pub places : new.places ≡ old.places
    pub used : new.used ≡ old.used
    pub broken : new.broken ≡ old.broken
