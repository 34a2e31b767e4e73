-- The stages with several inputs, whatever their kind: their port states, what their handlers owe, and their law over histories.
use Rattle.port_core.specs.View.{unpulled_ins}
use Rattle.std.specs.Prelude.{◌≡◌, ◌≢◌, ◌≤◌, ℕ, Bool, true, false, List, [], length, slice_index_or, Some, None, ⊤}
use Rattle.elem_core.specs.Tree.{Tree}
use Rattle.elem_core.specs.declared.item.Item.{Item}
use Rattle.elem_core.specs.declared.why.Decider.{Decider}
use Rattle.elem_core.specs.declared.count.TheConstants.{MOST_COUNT}
use Rattle.port_core.specs.declared.act.Act.{Act}
use Rattle.port_core.specs.View as port
use Rattle.port_core.specs.Call.{Call}
use Rattle.stream_model.specs.declared.kind.Kind.{Kind}
use Rattle.stream_model.specs.declared.kind.Kind.TheVariants.{Merge, MergeHub, Concat, Interleave, MergeSorted, Zip}
use Rattle.stream_model.specs.declared.kind.TheConstants.{MAX_FAN}
use Rattle.stream_model.specs.Outlook.{Outlook, End}
use Rattle.stream_model.specs.FanIn.{Inflow, concat_taken, interleave_taken}
use Rattle.stream_model.specs.View.{SeenWire}
use Rattle.stream_model.specs.Rests.{MergeRests, SortedRests, ZipRests}
use Rattle.stage_merge.specs.Rows.{MergeRestsBy, MergeMisfits}
use Rattle.port_core.specs.Picks.{next_move, planned}
use Rattle.stage_core.specs.PortsLaws.{InPortsLaw}
use Rattle.stage_core.specs.Fans.{FanKeeps}
use Rattle.stage_core.specs.Zips.{ZipKeeps}
use Rattle.stage_core.specs.Merges.{call_by}
use Rattle.stage_core.specs.declared.phase.Phase.TheVariants.{New, Open}
use Rattle.stage_in.specs.declared.logic.InLogic.{InLogic}
use Rattle.stage_in.specs.declared.logic.InLogic.TheVariants as logic
use Rattle.stage_in.specs.Kinds.{taking_by, sorting}
use Rattle.stage_core.specs.Seats.{room_for}
use Rattle.stage_in.specs.Takings as taking
use Rattle.stage_in.specs.Sortings as sorted
use Rattle.stage_in.specs.Zippings as zipping
use Rattle.stage_merge.specs.Mergings as merging
use Rattle.stage_in.specs.OwnRows.{TakingRests}

-- ---- kinds

-- the greatest number of elements of a segment
abbrev pub max_segment : ℕ
max_segment = MOST_COUNT

-- so many inputs are allowed
abbrev pub IsFan : ℕ → Type 0
IsFan n = (2 ≤ n) × (n ≤ MAX_FAN)

-- the kinds that these stages are, with sizes in their limits
abbrev pub IsFanIn : Kind → Type 0
IsFanIn (Concat n) = IsFan n
IsFanIn (Interleave n s) = IsFan n × ((1 ≤ s) × (s ≤ max_segment))
IsFanIn MergeSorted = ⊤
IsFanIn Zip = ⊤
IsFanIn (Merge n) = IsFan n
IsFanIn (MergeHub s n) = (1 ≤ n) × (n ≤ MAX_FAN)
IsFanIn _ = ⊥

-- those whose inputs' lists determine their order, so that they choose nothing
abbrev pub IsOrdered : Kind → Type 0
IsOrdered (Concat n) = ⊤
IsOrdered (Interleave n s) = ⊤
IsOrdered MergeSorted = ⊤
IsOrdered Zip = ⊤
IsOrdered _ = ⊥

-- how many inputs such a kind has
abbrev pub inputs_of : Kind → ℕ
inputs_of (Concat n) = n
inputs_of (Interleave n s) = n
inputs_of (Merge n) = n
inputs_of (MergeHub s n) = n
inputs_of _ = 2

-- ---- where a stage stands

-- it may be started, and made no move; a stage that asks nothing at its start is then open already
abbrev pub IsNew : InLogic → Type 0
IsNew (logic.Taking l) = l.live ≡ true
IsNew (logic.Sorting l) = l.phase ≡ New
IsNew (logic.Zipping l) = l.phase ≡ New
IsNew (logic.Merging l) = (l.core.phase ≡ New) × (l.log.moves ≡ [])

-- it takes and gives elements
abbrev pub IsOpen : InLogic → Type 0
IsOpen (logic.Taking l) = l.live ≡ true
IsOpen (logic.Sorting l) = l.phase ≡ Open
IsOpen (logic.Zipping l) = l.phase ≡ Open
IsOpen (logic.Merging l) = l.core.phase ≡ Open

-- it needs no start any more
abbrev pub IsStarted : InLogic → Type 0
IsStarted (logic.Taking l) = ⊤
IsStarted (logic.Sorting l) = l.phase ≢ New
IsStarted (logic.Zipping l) = l.phase ≢ New
IsStarted (logic.Merging l) = l.core.phase ≢ New

-- the most actions that one of its calls appends
abbrev pub room_of : InLogic → ℕ
room_of (logic.Taking l) = room_for (length l.over)
room_of (logic.Sorting l) = room_for 2
room_of (logic.Zipping l) = room_for 2
room_of (logic.Merging l) = room_for (length l.core.over)

-- what it knows of its ports
abbrev pub port_state : InLogic → port.View → Type 0
port_state (logic.Taking l) v = taking.port_state l v
port_state (logic.Sorting l) v = sorted.port_state l v
port_state (logic.Zipping l) v = zipping.port_state l v
port_state (logic.Merging l) v = merging.port_state l v

-- no call of it takes memory
abbrev pub TakesNone : InLogic → Type 0
TakesNone (logic.Taking l) = ⊤
TakesNone (logic.Sorting l) = ⊤
TakesNone (logic.Zipping l) = ⊥
TakesNone (logic.Merging l) = ⊥

-- what it knows whenever it has just asked: a merge has not stopped
abbrev pub InAsking : InLogic → port.View → Type 0
InAsking (logic.Taking l) v = ⊤
InAsking (logic.Sorting l) v = ⊤
InAsking (logic.Zipping l) v = ⊤
InAsking (logic.Merging l) v = l.log.stuck ≡ false

-- what a handler owes to the law; the stage stays of its kind, and no action cancels what an earlier one asked. One that gathers owes
-- what its call asks as it takes it
abbrev pub Turned : Call → InLogic → List Act → InLogic → Type 0
Turned call (logic.Taking l) acts (logic.Taking m) = taking.Turned call l acts m
Turned call (logic.Sorting l) acts (logic.Sorting m) = sorted.Turned call l acts m
Turned call (logic.Zipping l) acts (logic.Zipping m) = zipping.Turned call l acts m
Turned call (logic.Merging l) acts (logic.Merging m) = merging.Turned (call_by l.gathers call) l acts m
Turned _ _ _ _ = ⊥

-- ---- a new stage

-- it takes its inputs as the model says of the kind, and by its segment or by none; a merge_sorted and a zip have one way alone, and a
-- merge is as it is before anything came; a merge hub is a merge that gathers
abbrev pub TakesAs : Kind → InLogic → Type 0
TakesAs (Concat n) (logic.Taking l) = (l.segment ≡ None) × ((taking_by l.segment).from (taking.place_of l) ≡ concat_taken)
TakesAs (Interleave n s) (logic.Taking l) = (l.segment ≡ Some s) × ((taking_by l.segment).from (taking.place_of l) ≡ interleave_taken s)
TakesAs MergeSorted (logic.Sorting l) = ⊤
TakesAs Zip (logic.Zipping l) = ⊤
TakesAs (Merge n) (logic.Merging l) = merging.Begins n false l
TakesAs (MergeHub s n) (logic.Merging l) = merging.Begins n true l
TakesAs _ _ = ⊥

-- a new stage of node `node` may be started, takes its inputs as the model says, and knows that no port was asked
pub record Begins (node : ℕ) (kind : Kind) (d : Decider) (new : InLogic) : Type 0 where
  pub fresh : IsNew new
  pub takes : TakesAs kind new
  pub ready : port_state new (unpulled_ins (inputs_of kind))

-- it is a new merge of so many inputs, which gathers or does not
abbrev pub IsNewMerge : ℕ → Bool → InLogic → Type 0
IsNewMerge n gathers (logic.Merging l) = merging.Begins n gathers l
IsNewMerge n gathers _ = ⊥

-- it is a new merge or merge hub, and each of these moves is one of its inputs
pub record MayFollow (moves : List ℕ) (l : InLogic) : Type 0 where
  pub inputs : ℕ
  pub gathers : Bool
  pub fan : (1 ≤ inputs) × (inputs ≤ MAX_FAN)
  pub begins : IsNewMerge inputs gathers l
  pub named : merging.NamesInputs inputs (Some moves)

-- ---- the law

-- it is of the kind that it was; a merge had made no move then, gathers or does not as then, and follows what it followed then
abbrev pub SameKind : InLogic → InLogic → Type 0
SameKind (logic.Taking f) (logic.Taking l) = l.segment ≡ f.segment
SameKind (logic.Sorting f) (logic.Sorting l) = ⊤
SameKind (logic.Zipping f) (logic.Zipping l) = ⊤
SameKind (logic.Merging f) (logic.Merging l) = (f.log.moves ≡ []) × ((l.gathers ≡ f.gathers) × (planned l.log ≡ planned f.log))
SameKind _ _ = ⊥

-- what the histories of its ports have to do with each other, by the stage as it was at first and as it is now
abbrev pub Keeps : InLogic → InLogic → List Inflow → List Tree → End → Type 0
Keeps (logic.Taking f) (logic.Taking l) = FanKeeps (taking_by f.segment) (taking.place_of f) (taking.held l)
Keeps (logic.Sorting f) (logic.Sorting l) = FanKeeps sorting sorted.nowhere (sorted.held l)
Keeps (logic.Zipping f) (logic.Zipping l) = ZipKeeps (zipping.held l)
Keeps (logic.Merging f) (logic.Merging l) = merging.KeepsAs f.gathers (merging.held l)
Keeps _ _ = λ ins g e. ⊥

-- it may be started, and its port state holds
pub record InFresh (l : InLogic) (v : port.View) : Type 0 where
  pub fresh : IsNew l
  pub ports : port_state l v

-- it was started, and its port state holds
pub record InPortState (l : InLogic) (v : port.View) : Type 0 where
  pub started : IsStarted l
  pub ports : port_state l v

-- the law of its histories
pub record InLaw (first now : InLogic) (v : port.View) (took gave : List (List Item)) : Type 0 where
  pub same : SameKind first now
  pub by : InPortsLaw (Keeps first now) v took gave

-- one that waits for nothing that it could do, by its kind
abbrev pub KindRests : InLogic → List SeenWire → SeenWire → Type 0
KindRests (logic.Taking l) = TakingRests l.segment l.current
KindRests (logic.Sorting l) = SortedRests
KindRests (logic.Zipping l) = ZipRests
KindRests (logic.Merging l) = MergeRestsBy (next_move l.log.left) l.log.moves

-- the same of one that follows no moves
abbrev pub FreeRests : InLogic → List SeenWire → SeenWire → Type 0
FreeRests (logic.Taking l) = TakingRests l.segment l.current
FreeRests (logic.Sorting l) = SortedRests
FreeRests (logic.Zipping l) = ZipRests
FreeRests (logic.Merging l) = MergeRests l.log.moves

-- it did not stop for want of a move that it can make
abbrev pub NotStuck : InLogic → Type 0
NotStuck (logic.Merging l) = l.log.stuck ≡ false
NotStuck _ = ⊤

-- a merge that stopped has the cause of a misfit, over the outlooks of its inputs
abbrev pub StopsRightly : List Outlook → InLogic → Type 0
StopsRightly is (logic.Merging l) = l.log.stuck ≡ true → MergeMisfits l.gathers (next_move l.log.left) l.log.moves is
StopsRightly is _ = ⊤
