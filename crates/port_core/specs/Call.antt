-- The calls of a stage's handlers: where the port rules allow each, what the stage knows once it came, and what a handler gives.
use Rattle.std.specs.Prelude.{◌≡◌, ℕ, ◌==◌, if◌then◌else◌, List, [], ◌∷◌, ◌++◌, ⊤}
use Rattle.elem_core.specs.declared.item.Item.{Item}
use Rattle.elem_core.specs.declared.item.Item.TheVariants as item
use Rattle.port_core.specs.declared.act.Act.{Act}
use Rattle.port_core.specs.declared.act.Act.TheVariants.{Pull, Push, Complete, FailOut, Cancel}
use Rattle.port_core.specs.declared.view.InView.{InView}
use Rattle.port_core.specs.declared.view.InView.TheVariants.{Idle, Pulled, Finished}
use Rattle.port_core.specs.declared.view.OutView.{OutView}
use Rattle.port_core.specs.declared.view.OutView.TheVariants.{Unpulled, Available, Cancelled}
use Rattle.port_core.specs.View.{View, in_at, out_at, with_in, with_out, IsInOpen, IsOutOpen, ActsAllowed, acted_all}

-- `start`; `on_pull` of output j; `on_push`, `on_finish` or `on_fail` of input i, by the item that it brings; `on_cancel` of output j
pub data Call : Type 0 where
  starts : Call
  pulls : ℕ → Call
  arrives : ℕ → Item → Call
  cancels : ℕ → Call

-- no input was pulled
abbrev pub AllIdle : List InView → Type 0
AllIdle [] = ⊤
AllIdle (x ∷ xs) = (x ≡ Idle) × AllIdle xs

-- no output was pulled
abbrev pub AllUnpulled : List OutView → Type 0
AllUnpulled [] = ⊤
AllUnpulled (y ∷ ys) = (y ≡ Unpulled) × AllUnpulled ys

-- where an input may be brought the item: an element where it waits, an end where it is open
abbrev pub MayCome : Item → InView → Type 0
MayCome (item.Elem e) x = x ≡ Pulled
MayCome item.Ended x = IsInOpen x
MayCome (item.Failed c) x = IsInOpen x

-- what is known of the input then
abbrev pub came : Item → InView
came (item.Elem e) = Idle
came item.Ended = Finished
came (item.Failed c) = Finished

-- where the port rules allow the call
abbrev pub CallAllowed : Call → View → Type 0
CallAllowed starts v = AllIdle v.ins × AllUnpulled v.outs
CallAllowed (pulls j) v = out_at v j ≡ Unpulled
CallAllowed (arrives i x) v = MayCome x (in_at v i)
CallAllowed (cancels j) v = IsOutOpen (out_at v j)

-- what the stage knows as the handler begins
abbrev pub seen : Call → View → View
seen starts v = v
seen (pulls j) v = with_out v j Available
seen (arrives i x) v = with_in v i (came x)
seen (cancels j) v = with_out v j Cancelled

-- what the call brings to input i
abbrev pub brought_to : ℕ → Call → List Item
brought_to i starts = []
brought_to i (pulls j) = []
brought_to i (arrives k x) = if k == i then x ∷ [] else []
brought_to i (cancels j) = []

-- what an action gives at output j
abbrev pub given_by : ℕ → Act → List Item
given_by j (Pull i) = []
given_by j (Push k e) = if k == j then item.Elem e ∷ [] else []
given_by j (Complete k) = if k == j then item.Ended ∷ [] else []
given_by j (FailOut k c) = if k == j then item.Failed c ∷ [] else []
given_by j (Cancel i) = []

-- what actions give there
abbrev pub given_on : ℕ → List Act → List Item
given_on j [] = []
given_on j (a ∷ acts) = given_by j a ++ given_on j acts

-- What a handler owes to the port rules: wherever its call may come and its stage's port state holds, the actions are allowed in
-- their order, and the port state holds of what the stage knows once they are done.
pub record Obeys (call : Call) (OldPortState NewPortState : View → Type 0) (acts : List Act) : Type 0 where
  pub allowed : (v : View) → CallAllowed call v → OldPortState v → ActsAllowed (seen call v) acts
  pub ports : (v : View) → CallAllowed call v → OldPortState v → NewPortState (acted_all (seen call v) acts)

-- there is what the stage may know as the call comes
abbrev pub Meets : Call → (View → Type 0) → Type 0
Meets call PortState = (v : View) × (CallAllowed call v × PortState v)
