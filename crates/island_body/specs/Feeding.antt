-- What an input boundary keeps beside the connection at which its lane comes in, and when nothing is left for it to do.
use Rattle.std.specs.Prelude.{◌≡◌, ◌≢◌, ◌⊎◌, ℕ, true, []}
use Rattle.elem_core.specs.declared.item.Item.{Item}
use Rattle.elem_core.specs.declared.item.Item.TheVariants as item
use Rattle.port_core.specs.declared.act.Act.{Act}
use Rattle.port_core.specs.declared.act.Act.TheVariants as act
use Rattle.port_core.specs.declared.view.OutView.TheVariants as outlet
use Rattle.lane_core.specs.Ends.{taken_items}
use Rattle.lane_core.specs.declared.boundary.InputBoundary.{InputBoundary}
use Rattle.lane_core.specs.declared.state.State.TheVariants.{Flowing, Closed, Cancelled}
use Rattle.lane_core.specs.Boundary.{given, waits, state}
use Rattle.interpreter.specs.Island.{Kept}
use Rattle.interpreter.specs.Boundary.{cell_in}

-- what the stage does to hand an item on: it pushes an element, and completes or fails at an end
abbrev pub act_of : Item → Act
act_of (item.Elem e) = act.Push 0 e
act_of item.Ended = act.Complete 0
act_of (item.Failed c) = act.FailOut 0 c

module _ {S D L H B : Type 0} where
  -- What was pushed and closed there is what was handed on. The output was closed by its stage exactly where an end was handed on;
  -- where the lane was cancelled the connection was, too, and nothing goes on.
  pub record Feeds (b : InputBoundary) (i : Kept S D L H B) (u : ℕ) : Type 0 where
    pub given_is : (cell_in i u).wire.sent ≡ given b
    pub flowing : state b ≡ Flowing → (cell_in i u).wire.out ≢ outlet.Closed
    pub closed : state b ≡ Closed → (cell_in i u).wire.out ≡ outlet.Closed
    pub cancelled : state b ≡ Cancelled → (cell_in i u).wire.out ≡ outlet.Cancelled

  -- where the stage is asked all that was taken was handed on, or its connection was cancelled and that is on its way
  abbrev pub HasGiven : InputBoundary → Kept S D L H B → ℕ → Type 0
  HasGiven b i u = (cell_in i u).wire.out ≡ outlet.Available → (taken_items b.lane ≡ given b) ⊎ ((cell_in i u).wire.conn.in_closed ≡ true)

  -- nothing more may be handed on, no end waits where no element does, and a cancel that came was handed on
  pub record IsFed (b : InputBoundary) (i : Kept S D L H B) (u : ℕ) : Type 0 where
    pub given_all : HasGiven b i u
    pub no_end : state b ≡ Flowing → waits b ≡ [] → taken_items b.lane ≡ given b
    pub refused : (cell_in i u).wire.out ≡ outlet.Cancelled → state b ≢ Flowing
