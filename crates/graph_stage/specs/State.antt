-- A custom stage as the engine knows it: all but its handlers.
use Rattle.std.specs.Prelude.{◌≡◌, ℕ, Bool, true, false, List, [], ◌∷◌, ◌++◌, Option, Some, ⊤}
use Rattle.elem_core.specs.Sort.{Sort}
use Rattle.elem_core.specs.Tree.{Tree}
use Rattle.elem_core.specs.declared.item.Item.{Item}
use Rattle.port_core.specs.ActList.{ActList}
use Rattle.port_core.specs.declared.act.Act.{Act}
use Rattle.port_core.specs.Call.{Call}
use Rattle.stream_model.specs.Linear.{Book, told_book}
use Rattle.stage_core.specs.Histories.{given_all}
use Rattle.plug_logic.specs.Gives.{Gives, listed}
use Rattle.stage_linear.specs.Plugs.{Is}
use Rattle.graph_stage.specs.declared.ask.Ask.{Ask}
use Rattle.graph_stage.specs.declared.logic.CustomLogic.{CustomLogic}
use Rattle.graph_stage.specs.OwnView.{Seen, sees_then, Outcome, carried_out}
use Rattle.graph_stage.specs.Lifted.{Telling, may_reply, lifted_asks, lifted_to}
use Rattle.graph_stage.specs.Room.{FewPorts}
use Rattle.graph_stage.specs.Ruled.{occasion_at, taken_by}
use Rattle.graph_stage.specs.Standing.{without_taken_back}
use Rattle.graph_stage.specs.Told.{GivesTyped, took_by}

-- Choice: docs/DECISIONS.md#handlers-are-hidden
-- its node, its name, the types of its outputs, its ports as it sees them, how many elements it took, and which, how it stands where the
-- book has a list of its name, whether it may be called, the asks that it keeps, what each call of its handlers asked for, and the actions
-- of each call, oldest first
pub record CustomState : Type 0 where
  pub node : ℕ
  pub name : List ℕ
  pub types : List Sort
  pub sight : Seen
  pub taken : ℕ
  pub took : List Tree
  pub telling : Option Telling
  pub running : Bool
  pub asks : List Ask
  pub asked : List (List Ask)
  pub done : List ActList

-- what comes of these asks in that call
abbrev pub answered_as : CustomState → Call → List Ask → Outcome
answered_as x call asks = carried_out x.types (occasion_at x.node x.taken call) (sees_then call x.sight) asks

-- It tells the list that the book has of its name, and asked in a call for just what gives that; so it stands then.
pub record ListsAs (b : Book) (call : Call) (old new : CustomState) (asks : List Ask) : Type 0 where
  pub gives : Gives
  pub stood : Telling
  pub output : Sort
  pub is : old.telling ≡ Some stood
  pub follows : may_reply stood.course ≡ true → Is gives old.took (listed (told_book b) old.name)
  pub asked : asks ≡ lifted_asks gives stood call
  pub stands : new.telling ≡ Some (lifted_to gives stood call)
  pub types_are : old.types ≡ output ∷ []
  pub typed : GivesTyped (listed (told_book b) old.name) output

-- the same where the book has a list of its name
abbrev pub AsksAs : Bool → Book → Call → CustomState → CustomState → List Ask → Type 0
AsksAs true b call old new asks = ListsAs b call old new asks
AsksAs false b call old new asks = ⊤

-- There was one more call of its handlers, which asked for these, and no other, and where the book has a list of its name just for what
-- gives that; the actions are those of its asks up to the first that is forbidden, and then those of the failure, but for pulls that are
-- taken back. It sees its ports as they are then, has counted what it took, and keeps no ask.
pub record RuledAs (b : Book) (call : Call) (old new : CustomState) (acts : List Act) : Type 0 where
  pub asks : List Ask
  pub told : AsksAs (b.tells old.name) b call old new asks
  pub asked_is : new.asked ≡ old.asked ++ asks ∷ []
  pub last : ActList
  pub last_is : last.items ≡ acts
  pub done_is : new.done ≡ old.done ++ last ∷ []
  pub acts_are : acts ≡ without_taken_back new.sight (answered_as old call asks).acts
  pub sight_is : new.sight ≡ (answered_as old call asks).sight
  pub taken_is : new.taken ≡ taken_by old.taken call
  pub took_is : new.took ≡ took_by old.took call
  pub name_stays : new.name ≡ old.name
  pub running_is : new.running ≡ true
  pub node_stays : new.node ≡ old.node
  pub types_stay : new.types ≡ old.types
  pub no_asks : new.asks ≡ []

-- it has at most eight inputs and at most eight outputs, keeps no ask, and no call of it wanted memory in vain
pub record IsCallable (x : CustomState) : Type 0 where
  pub few : FewPorts x.sight
  pub no_asks : x.asks ≡ []
  pub running : x.running ≡ true

-- what of a custom stage is seen from above
abbrev pub shown : {H : Type 0} → CustomLogic H → Option Telling → Bool → CustomState
shown x telling running = record {
  node = x.node;
  name = x.name;
  types = x.types.items;
  sight = x.sight;
  taken = x.taken;
  took = x.took.items;
  telling = telling;
  running = running;
  asks = x.asks;
  asked = x.asked.items;
  done = x.done.items;
}

-- what passed at the outputs, by the actions of one call after another
abbrev pub done_gave : List ActList → List (List Item) → List (List Item)
done_gave [] gave = gave
done_gave (a ∷ more) gave = done_gave more (given_all a.items gave)
