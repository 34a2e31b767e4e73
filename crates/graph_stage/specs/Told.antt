-- What a custom stage tells: no list, or that of a plug, which it then asks for as the stage of a plug would.
use Rattle.std.specs.Prelude.{◌≡◌, ℕ, Bool, true, false, ◌&&◌, List, [], ◌∷◌, ◌++◌, Option, None, Some, ⊤}
use Rattle.elem_core.specs.Sort.{Sort}
use Rattle.elem_core.specs.Tree.{Tree}
use Rattle.elem_core.specs.Typed.{is_of}
use Rattle.elem_core.specs.declared.item.Item.TheVariants as item
use Rattle.port_core.specs.Call.{Call, arrives}
use Rattle.stream_model.specs.Linear.{Book, told_book, Reply, fail}
use Rattle.plug_logic.specs.Gives.{Gives, listed}
use Rattle.stage_linear.specs.Plugs.{Is}
use Rattle.graph_stage.specs.declared.ask.Ask.{Ask}
use Rattle.graph_stage.specs.Lifted.{Telling, not_begun, may_reply, lifted_asks, lifted_to, gives_then}

-- it tells no list; or that which these replies give, and so it stands
pub data ToldList : Type 0 where
  no_list : ToldList
  list_of : Gives → Telling → ToldList

-- It tells a list, and asked in a call for just what gives it; so it stands then, and tells what is left of it while that may be asked.
pub record ListsOn (p : Gives) (s : Telling) (call : Call) (asks : List Ask) (new : ToldList) : Type 0 where
  pub left : Gives
  pub asked : asks ≡ lifted_asks p s call
  pub stands : new ≡ list_of left (lifted_to p s call)
  pub follows : may_reply (lifted_to p s call).course ≡ true → left ≡ gives_then p call

-- What one that tells this owes in a call, which asks for these and then tells that. One that tells no list owes nothing, and tells none
-- behind it.
abbrev pub TellsOn : Call → ToldList → List Ask → ToldList → Type 0
TellsOn call no_list asks new = new ≡ no_list
TellsOn call (list_of p s) asks new = ListsOn p s call asks new

-- ---- elements of a type

-- whether each of these is of that type
abbrev pub all_of : Sort → List Tree → Bool
all_of k [] = true
all_of k (t ∷ l) = is_of k t && all_of k l

-- this reply, or a failure with code 0
abbrev pub reply_if : Bool → Reply → Reply
reply_if true r = r
reply_if false r = record { gave = []; verdict = fail 0 }

-- what gives that of elements of one type, and fails with code 0 at the first other one
abbrev pub typed_gives : Sort → Gives → Gives
typed_gives k p = record { reply = λ l t. reply_if (all_of k l && is_of k t) (p.reply l t); closing = λ l. reply_if (all_of k l) (p.closing l) }

-- ---- what a book has of it

-- each of these is of that type
abbrev pub AllOfType : Sort → List Tree → Type 0
AllOfType k [] = ⊤
AllOfType k (t ∷ l) = (is_of k t ≡ true) × AllOfType k l

-- whatever came, it gives elements of this type alone
-- Choice: docs/DECISIONS.md#told-list-has-its-type
pub record GivesTyped (p : Gives) (k : Sort) : Type 0 where
  pub reply : (took : List Tree) (t : Tree) → AllOfType k (p.reply took t).gave
  pub closing : (took : List Tree) → AllOfType k (p.closing took).gave

-- how one stands that tells a list
abbrev pub telling_in : ToldList → Option Telling
telling_in no_list = None
telling_in (list_of p s) = Some s

-- the same, where the book has a list of its name
abbrev pub telling_by : Bool → ToldList → Option Telling
telling_by true tells = telling_in tells
telling_by false tells = None

-- the elements that a stage has taken with a call, behind these
abbrev pub took_by : List Tree → Call → List Tree
took_by l (arrives i (item.Elem t)) = l ++ t ∷ []
took_by l _ = l

-- A stage of this name that took these tells a list: that which the book has of its name, behind them, while it may be asked. All of that
-- list is of the type of its one output.
pub record TellsListed (b : Book) (name : List ℕ) (types : List Sort) (took : List Tree) (tells : ToldList) : Type 0 where
  pub gives : Gives
  pub telling : Telling
  pub output : Sort
  pub is : tells ≡ list_of gives telling
  pub follows : may_reply telling.course ≡ true → Is gives took (listed (told_book b) name)
  pub types_are : types ≡ output ∷ []
  pub typed : GivesTyped (listed (told_book b) name) output

-- the same where the book has a list of its name; where it has none, nothing is asked of what the stage tells
abbrev pub TellsAs : Bool → Book → List ℕ → List Sort → List Tree → ToldList → Type 0
TellsAs true b name types took tells = TellsListed b name types took tells
TellsAs false b name types took tells = ⊤

-- before its start, a stage with these types of its inputs and outputs
pub record TellsAtFirst (b : Book) (name : List ℕ) (inputs outputs : List Sort) (tells : ToldList) : Type 0 where
  pub gives : Gives
  pub input : Sort
  pub output : Sort
  pub is : tells ≡ list_of gives not_begun
  pub follows : Is gives [] (listed (told_book b) name)
  pub inputs_are : inputs ≡ input ∷ []
  pub outputs_are : outputs ≡ output ∷ []
  pub typed : GivesTyped (listed (told_book b) name) output

-- the same where the book has a list of its name
abbrev pub HandedAs : Bool → Book → List ℕ → List Sort → List Sort → ToldList → Type 0
HandedAs true b name inputs outputs tells = TellsAtFirst b name inputs outputs tells
HandedAs false b name inputs outputs tells = ⊤
