-- The state of a partition, its port state, and what its handlers owe.
use Rattle.std.specs.Prelude.{◌≡◌, ◌≢◌, ◌⊎◌, ℕ, ◌+◌, ◌≤◌, ◌<◌, ◌-◌, ◌==◌, if◌then◌else◌, Bool, true, false, List, [], ◌∷◌, length, map, slice_get, slice_set, slice_index_or, Option, None, Some, Ok, Err, replicate}
use Rattle.elem_core.specs.Tree.{Tree}
use Rattle.elem_core.specs.Values.{map_value, part_of}
use Rattle.elem_core.specs.declared.why.Cause.{Cause}
use Rattle.elem_core.specs.declared.why.Why.{Why}
use Rattle.elem_core.specs.declared.why.Decider.TheVariants.{Stop}
use Rattle.elem_core.specs.declared.function.MapFn.{MapFn}
use Rattle.port_core.specs.declared.act.Act.{Act}
use Rattle.port_core.specs.declared.act.Act.TheVariants.{Pull, Push, Complete, FailOut, Cancel}
use Rattle.port_core.specs.declared.view.InView.{InView}
use Rattle.port_core.specs.declared.view.InView.TheVariants.{Idle, Pulled, Finished}
use Rattle.port_core.specs.View.{View}
use Rattle.port_core.specs.Asking.{PullsStand}
use Rattle.port_core.specs.Call.{Call}
use Rattle.stream_model.specs.Machine.{State, going, done}
use Rattle.stream_model.specs.Linear.{Book, Stage, numbering, linear, begin_work}
use Rattle.stream_model.specs.declared.kind.TheConstants.{MAX_FAN}
use Rattle.stage_core.specs.Held.{Held, owing, shut}
use Rattle.stage_core.specs.Outs.{Outlet, TurnsAt}
use Rattle.stage_core.specs.declared.outs.OutputState.{OutputState}
use Rattle.stage_core.specs.declared.outs.OutputState.TheVariants.{Quiet, Asks, Gone}
use Rattle.stage_core.specs.OpenOuts.{want_view, open_count, asks_count, at_open, AllClosed}

-- Whether its ports are open; its number, its count of outputs and its function; its outputs, how many of them ask and how many are open;
-- the output that it holds an element for, and the element; whether its input is asked, and has ended; how many elements it took.
pub record PartitionLogic : Type 0 where
  pub live : Bool
  pub node : ℕ
  pub parts : ℕ
  pub fun : MapFn
  pub outs : List OutputState
  pub asking : ℕ
  pub open_outs : ℕ
  pub to : ℕ
  pub held : Option Tree
  pub waits : Bool
  pub over : Bool
  pub taken : ℕ

-- what it knows of its input, by whether that has ended and is asked
abbrev pub input_of : Bool → Bool → InView
input_of true w = Finished
input_of false true = Pulled
input_of false false = Idle

-- what it knows of its ports
abbrev pub view_of : PartitionLogic → View
view_of l = record { ins = input_of l.over l.waits ∷ []; outs = map want_view l.outs }

-- it holds nothing, and waits where an output asks; or it holds an element for an output that does not ask, and does not wait
abbrev pub Holding : Option Tree → PartitionLogic → Type 0
Holding None l = (l.over ≡ false) × (l.waits ≡ false → l.asking ≡ 0)
Holding (Some t) l = (l.waits ≡ false) × (slice_get l.outs l.to ≡ Some Quiet)

-- the counts are those of its outputs, of which one is open; where its input is asked, an output asks, or one was cancelled
pub record Sound (l : PartitionLogic) : Type 0 where
  pub asking_is : l.asking ≡ asks_count l.outs
  pub open_is : l.open_outs ≡ open_count l.outs
  pub some : 1 ≤ l.open_outs
  pub parts : 1 ≤ l.parts
  pub few : length l.outs ≤ MAX_FAN
  pub holds : Holding l.held l
  pub wants : l.waits ≡ true → (1 ≤ l.asking) ⊎ (l.open_outs < length l.outs)

-- its port state, by whether its ports are open
abbrev pub port_state_by : Bool → PartitionLogic → View → Type 0
port_state_by true l v = (v ≡ view_of l) × Sound l
port_state_by false l v = AllClosed v

-- its port state
abbrev pub port_state : PartitionLogic → View → Type 0
port_state l v = port_state_by l.live l v

-- what is held for output m
abbrev pub held_for : ℕ → ℕ → Option Tree → List Tree
held_for m to None = []
held_for m to (Some t) = if to == m then t ∷ [] else []

-- the machine's stage at output m
abbrev pub stage_of : PartitionLogic → ℕ → Stage
stage_of l m = record { node = l.node; decider = Stop; taken = l.taken; work = numbering l.parts l.fun m }

-- how an output's machine stands, by whether the input has ended
abbrev pub state_of : Bool → Stage → State Stage
state_of true s = done
state_of false s = going s

-- what an output that is open owes, by what is held for it; one that was cancelled owes nothing
abbrev pub due_of : List Tree → State Stage → OutputState → Held Stage
due_of g st Quiet = owing (record { gave = g; state = st })
due_of g st Asks = owing (record { gave = g; state = st })
due_of g st Gone = shut

-- what output m owes
abbrev pub held_of : PartitionLogic → ℕ → OutputState → Held Stage
held_of l m w = due_of (held_for m l.to l.held) (state_of l.over (stage_of l m)) w

-- the same, and nothing once it has closed all
abbrev pub then_of : Bool → PartitionLogic → ℕ → OutputState → Held Stage
then_of true l m w = held_of l m w
then_of false l m w = shut

-- the outputs from number n on
abbrev pub dealers : Book → PartitionLogic → (ℕ → OutputState → Held Stage) → ℕ → List OutputState → List (Outlet Stage)
dealers book l h n [] = []
dealers book l h n (w ∷ ws) = record {
  machine = linear book (numbering l.parts l.fun n);
  start = begin_work l.node Stop (numbering l.parts l.fun n);
  held = h n w;
} ∷ dealers book l h (n + 1) ws

-- what each owes
abbrev pub dues : (ℕ → OutputState → Held Stage) → ℕ → List OutputState → List (Held Stage)
dues h n [] = []
dues h n (w ∷ ws) = h n w ∷ dues h (n + 1) ws

-- what a handler owes to the law, at each output
pub record Turned (call : Call) (old : PartitionLogic) (acts : List Act) (new : PartitionLogic) : Type 0 where
  pub turns : (book : Book) → TurnsAt 0 call (dealers book old (held_of old) 0 old.outs) acts (dues (then_of new.live new) 0 new.outs)
  pub node : new.node ≡ old.node
  pub parts : new.parts ≡ old.parts
  pub fun : new.fun ≡ old.fun
  pub outputs : length new.outs ≡ length old.outs
  pub stands : PullsStand acts

-- what a handler makes of the stage, and its actions
pub record Parts (new : PartitionLogic) (acts : List Act) (to : PartitionLogic) (list : List Act) : Type 0 where
  pub to_is : new ≡ to
  pub acts_are : acts ≡ list

-- it asks its input where an output asks
abbrev pub pull_by : ℕ → List Act
pull_by q = if q == 0 then [] else Pull 0 ∷ []

-- whether its input is asked, by how many outputs ask
abbrev pub waits_by : ℕ → Bool
waits_by q = if q == 0 then false else true

-- once it holds nothing: it ends where its input has ended, and else goes on
abbrev pub moved_on : Bool → PartitionLogic → PartitionLogic
moved_on true l = record l { live = false }
moved_on false l = record l { waits = waits_by l.asking }

-- its actions then
abbrev pub moving_acts : Bool → PartitionLogic → List Act
moving_acts true l = at_open (λ j. Complete j) 0 l.outs
moving_acts false l = pull_by l.asking

-- it took out what it held for output j; or it holds nothing for it
abbrev pub TookFor : ℕ → PartitionLogic → PartitionLogic → Option Tree → Type 0
TookFor j old new (Some t) = (old.to ≡ j) × (old.held ≡ Some t) × (new ≡ record old { held = None })
TookFor j old new None = (old.to ≡ j → old.held ≡ None) × (new ≡ old)

-- the stage once output j asks
abbrev pub with_asks : ℕ → PartitionLogic → PartitionLogic
with_asks j l = record l { outs = slice_set l.outs j Asks; asking = l.asking + 1 }

-- output j asks, and gets nothing now
pub data Noted (j : ℕ) (old new : PartitionLogic) (acts : List Act) : Type 0 where
  pulls_input : old.held ≡ None → old.waits ≡ false → new ≡ record (with_asks j old) { waits = true } → acts ≡ Pull 0 ∷ [] → Noted j old new acts
  rests : (old.held ≡ None → old.waits ≡ true) → new ≡ with_asks j old → acts ≡ [] → Noted j old new acts

-- output j asks
pub data AskedOf (j : ℕ) (old new : PartitionLogic) (acts : List Act) : Type 0 where
  gets : (t : Tree) → old.to ≡ j → old.held ≡ Some t → new ≡ moved_on old.over (record old { held = None })
      → acts ≡ Push j t ∷ moving_acts old.over (record old { held = None }) → AskedOf j old new acts
  notes : (old.to ≡ j → old.held ≡ None) → Noted j old new acts → AskedOf j old new acts

-- the stage once output p, which asked, got an element
abbrev pub with_given : ℕ → PartitionLogic → PartitionLogic
with_given p l = record l { outs = slice_set l.outs p Quiet; asking = l.asking - 1; waits = waits_by (l.asking - 1) }

-- an element for output p
pub data Dealt (p : ℕ) (t : Tree) (old new : PartitionLogic) (acts : List Act) : Type 0 where
  given : slice_index_or old.outs p Gone ≡ Asks → new ≡ with_given p old → acts ≡ Push p t ∷ pull_by (old.asking - 1) → Dealt p t old new acts
  keeps : slice_index_or old.outs p Gone ≡ Quiet → new ≡ record old { to = p; held = Some t; waits = false } → acts ≡ [] → Dealt p t old new acts
  drops : slice_index_or old.outs p Gone ≡ Gone → new ≡ record old { waits = waits_by old.asking } → acts ≡ pull_by old.asking → Dealt p t old new acts

-- the cause of a failure by this reason, which blames the element that came
abbrev pub blaming : PartitionLogic → Why → Cause
blaming l why = record { stage = l.node; nth = l.taken + 1; why = why }

-- an element
pub data Served (t : Tree) (old new : PartitionLogic) (acts : List Act) : Type 0 where
  dealt : (p : ℕ) → part_of old.parts (map_value old.fun t) ≡ Ok p → Dealt p t (record old { taken = old.taken + 1 }) new acts → Served t old new acts
  blamed : (why : Why) → part_of old.parts (map_value old.fun t) ≡ Err why → new ≡ record old { live = false }
      → acts ≡ Cancel 0 ∷ at_open (λ j. FailOut j (blaming old why)) 0 old.outs → Served t old new acts

-- the input has ended
pub data EndedFor (old new : PartitionLogic) (acts : List Act) : Type 0 where
  ends_now : old.held ≡ None → new ≡ record old { live = false } → acts ≡ at_open (λ j. Complete j) 0 old.outs → EndedFor old new acts
  ends_later : old.held ≢ None → new ≡ record old { over = true } → acts ≡ [] → EndedFor old new acts

-- how many outputs ask without one that stood so
abbrev pub less_by : OutputState → ℕ → ℕ
less_by Quiet q = q
less_by Asks q = q - 1
less_by Gone q = q

-- without output j
abbrev pub struck : ℕ → PartitionLogic → PartitionLogic
struck j l = record l { outs = slice_set l.outs j Gone; open_outs = l.open_outs - 1; asking = less_by (slice_index_or l.outs j Gone) l.asking }

-- output j is not there any more: what is held for it is dropped
pub data PassedOver (j : ℕ) (old new : PartitionLogic) (acts : List Act) : Type 0 where
  dropped : (t : Tree) → old.to ≡ j → old.held ≡ Some t → new ≡ moved_on old.over (record old { held = None })
      → acts ≡ moving_acts old.over (record old { held = None }) → PassedOver j old new acts
  kept_on : (old.to ≡ j → old.held ≡ None) → new ≡ old → acts ≡ [] → PassedOver j old new acts

-- output j was cancelled
pub data Lost (j : ℕ) (old new : PartitionLogic) (acts : List Act) : Type 0 where
  last : old.open_outs ≡ 1 → new ≡ record (struck j old) { live = false } → acts ≡ (if old.over then [] else Cancel 0 ∷ []) → Lost j old new acts
  others : old.open_outs ≢ 1 → PassedOver j (struck j old) new acts → Lost j old new acts

-- how it begins
abbrev pub begun : ℕ → ℕ → MapFn → PartitionLogic
begun node n f = record {
  live = true;
  node = node;
  parts = n;
  fun = f;
  outs = replicate n Quiet;
  asking = 0;
  open_outs = n;
  to = 0;
  held = None;
  waits = false;
  over = false;
  taken = 0;
}
