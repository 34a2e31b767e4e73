-- What passed an input boundary: what was taken off its lane, what was handed on, and what waits between.
use Rattle.std.specs.Prelude.{◌≡◌, ◌≢◌, ◌+◌, ◌*◌, ◌<◌, ◌≤◌, ℕ, Bool, true, false, cond, List, [], ◌∷◌, ◌++◌, length, Option}
use Rattle.std.specs.Option.{option_to_list}
use Rattle.elem_core.specs.Tree.{Tree}
use Rattle.elem_core.specs.Items.{elements}
use Rattle.elem_core.specs.declared.item.Item.{Item}
use Rattle.elem_core.specs.declared.item.Item.TheVariants as item
use Rattle.stream_model.specs.Outlook.{unended}
use Rattle.stage_core.specs.Held.{told}
use Rattle.lane_core.specs.declared.state.State.{State}
use Rattle.lane_core.specs.declared.state.State.TheVariants.{Flowing, Closed, Cancelled}

-- whether the end that was taken, if one was, is a failure
abbrev pub is_failure : List Item → Bool
is_failure [] = false
is_failure (item.Elem e ∷ is) = false
is_failure (item.Ended ∷ is) = false
is_failure (item.Failed c ∷ is) = true

-- whether the end that was taken drops what waits: a failure does, unless the lane keeps what came before it
abbrev pub drops : Bool → List Item → Bool
drops true end = false
drops false end = is_failure end

-- of the end that was taken, if one was: what waits to be handed on
abbrev pub pending_by : State → List Item → List Item
pending_by Flowing end = end
pending_by Closed end = []
pending_by Cancelled end = []

-- of the end that was taken, if one was: what was handed on
abbrev pub handed_by : State → List Item → List Item
handed_by Flowing end = []
handed_by Closed end = end
handed_by Cancelled end = []

-- whether the lane was cancelled, 0 or 1
abbrev pub cancelled_by : State → ℕ
cancelled_by Flowing = 0
cancelled_by Closed = 0
cancelled_by Cancelled = 1

-- Of a lane of s places all that was taken is, in this order: the elements that were handed on, those that were dropped, those that
-- wait, and the end, if one was taken. A failure drops what waits, which is never more than s elements, unless the lane keeps it; so
-- does a cancel; nothing else is dropped. The end waits behind the elements until it is handed on.
pub record Flow (keep : Bool) (s : ℕ) (taken gave lost : List Item) (waits : List Tree) (end : List Item) (pending : Option Item) (over : Bool)
    (state : State) (cancelled : ℕ) : Type 0 where
  pub taken_is : taken ≡ gave ++ (lost ++ (told waits unended ++ end))
  pub gave_elements : elements gave ≡ length gave
  pub lost_elements : elements lost ≡ length lost
  pub one_end : length end ≡ cond over 1 0
  pub no_element : elements end ≡ 0
  pub pending_is : option_to_list pending ≡ pending_by state end
  pub cancelled_is : cancelled ≡ cancelled_by state
  pub closed : state ≡ Closed → over ≡ true
  pub none_waits : state ≢ Flowing → waits ≡ []
  pub none_lost : state ≢ Cancelled → drops keep end ≡ false → lost ≡ []
  pub few : state ≢ Cancelled → length lost + length waits ≤ s
  pub failure : drops keep end ≡ true → waits ≡ []

-- It asked for the lane's s places first, and for half of them, but at least for one, each time that so many elements were handed
-- on: `pushed` is how many were, and `passed` how many of these were not asked for again.
pub record AsksByHalves (s half asked calls pushed passed : ℕ) : Type 0 where
  pub begun : 1 ≤ calls
  pub asked_is : asked + half ≡ s + calls * half
  pub pushed_is : pushed + half ≡ calls * half + passed
  pub less : passed < half
