-- What an output boundary keeps, beside the connection at which its lane goes out.
-- Choice: docs/DECISIONS.md#sent-part-by-part
use Rattle.std.specs.Prelude.{◌≡◌, ◌≤◌, ◌<◌, ℕ, true, false, Bool, List, [], ◌∷◌}
use Rattle.elem_core.specs.declared.item.Item.{Item}
use Rattle.elem_core.specs.declared.item.Item.TheVariants as item
use Rattle.port_core.specs.Marks.{wanted}
use Rattle.nodes.specs.Nodes.{node_gone}
use Rattle.fused_net.specs.Net.{end_at}
use Rattle.fused_net.specs.Poking.{AtNode}
use Rattle.lane_core.specs.declared.lane_out.LaneOut.{LaneOut}
use Rattle.lane_core.specs.Ends.{sent, seen_count, saw_cancel, has_ended}
use Rattle.interpreter.specs.Island.{Kept}
use Rattle.interpreter.specs.Boundary.{way_out, cell_out}
use Rattle.island_body.specs.declared.found.Found.{Found}
use Rattle.island_body.specs.declared.found.Found.TheVariants.{Nothing, Demand, Cancelled}

-- a history with an end
abbrev pub has_end : List Item → Bool
has_end [] = false
has_end (item.Elem e ∷ l) = has_end l
has_end (item.Ended ∷ l) = true
has_end (item.Failed c ∷ l) = true

-- An output end that has seen no cancel, at the connection where its lane goes out: all that left the island there was sent,
-- and no more was asked there than the end has seen asked.
pub record Sends {S D L H B : Type 0} (o : LaneOut) (i : Kept S D L H B) (u : ℕ) : Type 0 where
  pub gone : AtNode i.net (end_at i.net.ends (way_out i u)).to (λ x. node_gone x ≡ sent o)
  pub wants : wanted (cell_out i u) ≤ seen_count o
  pub live : saw_cancel o ≡ 0
  pub ended : has_ended o ≡ has_end (sent o)

-- what a look found, by what was seen asked before and after it, and by whether a cancel was seen
abbrev pub FoundIs : Found → ℕ → ℕ → ℕ → Type 0
FoundIs Nothing before after cancel = (after ≡ before) × (cancel ≡ 0)
FoundIs Demand before after cancel = (before < after) × (cancel ≡ 0)
FoundIs Cancelled before after cancel = cancel ≡ 1

-- what a visit found, by what was seen of asks and of a cancel before and after it
abbrev pub VisitIs : Found → ℕ → ℕ → ℕ → ℕ → Type 0
VisitIs Nothing before cancel after cancel' = (after ≡ before) × (cancel' ≡ cancel)
VisitIs Demand before cancel after cancel' = (before < after) × ((cancel ≡ 0) × (cancel' ≡ 0))
VisitIs Cancelled before cancel after cancel' = (cancel ≡ 0) × (cancel' ≡ 1)

-- the units that a visit costs, by what it found: one for demand and one for a cancel
abbrev pub unit_of : Found → ℕ
unit_of Nothing = 0
unit_of Demand = 1
unit_of Cancelled = 1
