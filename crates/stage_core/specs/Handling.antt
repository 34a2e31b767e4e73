-- What a stage owes at each call of a handler, whatever its kind is. Three things are told of a kind: what a stage that was
-- not started may know of its ports (`fresh`); what one that was started may know of them between two calls (`port_state`); and
-- what holds of the histories of its ports, by the stage as it was handed in and as it is now (`law`). Two more are told of
-- the moments at which it pulls: what it knows of its ports whenever it has just pulled (`asking`), and the moves that it has
-- recorded, which only grow (`moves`). One is told of whether it acts by itself at all (`passive`). And one is told of want of memory: what a stage keeps of itself through a call that
-- answers it (`keeps`).
use Rattle.std.specs.Prelude.{◌≡◌, ℕ, Bool, true, false, List, [], ◌∷◌, length, ⊤}
use Rattle.elem_core.specs.Prefix.{IsPrefix}
use Rattle.elem_core.specs.declared.item.Item.{Item}
use Rattle.port_core.specs.declared.act.Act.{Act}
use Rattle.port_core.specs.declared.act.Act.TheVariants.{Pull, Push, Complete, FailOut, Cancel}
use Rattle.port_core.specs.View.{View, acted_all}
use Rattle.port_core.specs.Call.{Call, starts, CallAllowed, seen, Obeys}
use Rattle.port_core.specs.Asking.{PullsStand}
use Rattle.stage_core.specs.Histories.{given_all, brought_by, AllEmpty}

-- some input is pulled
abbrev pub Pulls : List Act → Type 0
Pulls [] = ⊥
Pulls (Pull i ∷ acts) = ⊤
Pulls (Push j e ∷ acts) = Pulls acts
Pulls (Complete j ∷ acts) = Pulls acts
Pulls (FailOut j c ∷ acts) = Pulls acts
Pulls (Cancel i ∷ acts) = Pulls acts

-- Wherever the call may come and `Before` holds, actions that pull some input leave `Asking` of what the stage knows once they are done.
abbrev pub PullsAs : Call → (View → Type 0) → (View → Type 0) → List Act → Type 0
PullsAs call Before Asking acts = (v : View) → CallAllowed call v → Before v → Pulls acts → Asking (acted_all (seen call v) acts)

-- A stage stays passive or not; one that is has appended no action.
abbrev pub StaysPassive : Bool → Bool → List Act → Type 0
StaysPassive false now acts = now ≡ false
StaysPassive true now acts = (now ≡ true) × (acts ≡ [])

module _ {N : Type 0} (port_state : N → View → Type 0) (law : N → N → View → List (List Item) → List (List Item) → Type 0) where
  -- The stage was started: its actions obey the port rules, none of them cancels an input that an earlier one pulled, and once they are done its port state and its law hold.
  pub record Starts (fresh : N → View → Type 0) (old new : N) (acts : List Act) : Type 0 where
    pub obeys : Obeys starts (fresh old) (port_state new) acts
    pub stands : PullsStand acts
    pub begins : (v : View) (took gave : List (List Item)) → CallAllowed starts v → fresh old v → AllEmpty took → AllEmpty gave → length took ≡ length v.ins
        → length gave ≡ length v.outs
        → law old new (acted_all v acts) took (given_all acts gave)

  -- The call was handled: its actions obey the port rules, none of them cancels an input that an earlier one pulled, and once they are done its port state and its law hold again.
  pub record Handles (call : Call) (old new : N) (acts : List Act) : Type 0 where
    pub obeys : Obeys call (port_state old) (port_state new) acts
    pub stands : PullsStand acts
    pub keeps : (first : N) (v : View) (took gave : List (List Item)) → CallAllowed call v → port_state old v → law first old v took gave
        → law first new (acted_all (seen call v) acts) (brought_by call took) (given_all acts gave)

module _ {N : Type 0} (port_state : N → View → Type 0) (law : N → N → View → List (List Item) → List (List Item) → Type 0) (asking : N → View → Type 0)
    (moves : N → List ℕ) (passive : N → Bool) (gone : N → List Item) where
  -- The call was handled by these actions, and all holds besides that a handler owes: what the stage tells whenever it has just pulled, its
  -- moves, whether it is passive, and what left it.
  pub record Reacts (call : Call) (old new : N) (acts : List Act) : Type 0 where
    pub handles : Handles port_state law call old new acts
    pub pulls : PullsAs call (port_state old) (asking new) acts
    pub grows : IsPrefix (moves old) (moves new)
    pub stays : StaysPassive (passive old) (passive new) acts
    pub none_gone : gone new ≡ gone old
