-- A custom stage at one call: what it comes to by what its handler asked for. Rule: own.
use Rattle.std.specs.Prelude.{◌≡◌, ℕ, ◌+◌, List, [], ◌∷◌, ◌++◌, Option, None, Some}
use Rattle.elem_core.specs.declared.item.Item.TheVariants as item
use Rattle.elem_core.specs.declared.why.Cause.{Cause}
use Rattle.port_core.specs.ActList.{ActList}
use Rattle.port_core.specs.declared.act.Act.{Act}
use Rattle.port_core.specs.Call.{Call, starts, pulls, arrives, cancels}
use Rattle.graph_stage.specs.declared.ask.Ask.{Ask}
use Rattle.graph_stage.specs.declared.occasion.Occasion.{Occasion}
use Rattle.graph_stage.specs.declared.logic.CustomLogic.{CustomLogic}
use Rattle.graph_stage.specs.Standing.{without_taken_back}
use Rattle.graph_stage.specs.OwnView.{Called, sees_then, Outcome, carried_out}
use Rattle.graph_stage.specs.Room.{FewPorts}
use Rattle.graph_stage.specs.Told.{ToldList, TellsOn, took_by}

-- how many elements a stage that had taken n has taken with a call
abbrev pub taken_by : ℕ → Call → ℕ
taken_by n (arrives i (item.Elem e)) = n + 1
taken_by n _ = n

-- the number of the element that comes with a call to a stage that took n with it, or 0 where none comes
abbrev pub nth_by : ℕ → Call → ℕ
nth_by n (arrives i (item.Elem e)) = n
nth_by n _ = 0

-- the failure that comes with a call
abbrev pub failure_by : Call → Option Cause
failure_by (arrives i (item.Failed c)) = Some c
failure_by _ = None

-- what asks are carried out with in a call of this node, which had taken so many elements
abbrev pub occasion_at : ℕ → ℕ → Call → Occasion
occasion_at node taken call = record { node = node; taken = taken_by taken call; nth = nth_by (taken_by taken call) call; failure = failure_by call }

module _ {H : Type 0} where
  -- the call of its handler, as the handler sees the ports then
  abbrev pub called_by : CustomLogic H → Call → Called
  called_by x call = record { call = call; sight = sees_then call x.sight }

  -- what comes of these asks in that call
  abbrev pub answered : CustomLogic H → Call → List Ask → Outcome
  answered x call asks = carried_out x.types.items (occasion_at x.node x.taken call) (sees_then call x.sight) asks

  -- what comes of the asks that it keeps, at the element of this number or with this failure
  abbrev pub outcome_at : CustomLogic H → ℕ → Option Cause → Outcome
  outcome_at x nth failure = carried_out x.types.items (record { node = x.node; taken = x.taken; nth = nth; failure = failure }) x.sight x.asks

  -- Its handler was called, once, and asked for these, as what it tells wants; the actions are those of its asks up to the first that is
  -- forbidden, and then those of the failure, but for pulls that are taken back. It sees its ports as they are then, has noted what was
  -- asked for and what was done, has counted what it took, and keeps no ask.
  pub record Ruled (does : H → Called → List Ask → H → Type 0) (tells : H → ToldList) (call : Call) (old new : CustomLogic H)
      (acts : List Act) : Type 0 where
    pub asks : List Ask
    pub called : does old.handlers (called_by old call) asks new.handlers
    pub told : TellsOn call (tells old.handlers) asks (tells new.handlers)
    pub asked_is : new.asked.items ≡ old.asked.items ++ asks ∷ []
    pub last : ActList
    pub last_is : last.items ≡ acts
    pub done_is : new.done.items ≡ old.done.items ++ last ∷ []
    pub acts_are : acts ≡ without_taken_back new.sight (answered old call asks).acts
    pub sight_is : new.sight ≡ (answered old call asks).sight
    pub taken_is : new.taken ≡ taken_by old.taken call
    pub took_is : new.took.items ≡ took_by old.took.items call
    pub name_stays : new.name ≡ old.name
    pub node_stays : new.node ≡ old.node
    pub types_stay : new.types.items ≡ old.types.items
    pub no_asks : new.asks ≡ []

  -- it has at most eight inputs and at most eight outputs, and keeps no ask
  pub record IsReadyForCall (x : CustomLogic H) : Type 0 where
    pub few : FewPorts x.sight
    pub no_asks : x.asks ≡ []
