-- The state of a stage that keeps elements, what it still owes, and its port state: what it knows of its ports.
use Rattle.std.specs.Prelude.{◌≡◌, ◌≢◌, ◌⊎◌, ◌<◌, ⊤, ℕ, Bool, true, false, List, [], length, Option, Some, None}
use Rattle.elem_core.specs.Tree.{Tree}
use Rattle.elem_core.specs.declared.why.Decider.{Decider}
use Rattle.port_core.specs.declared.act.Act.{Act}
use Rattle.port_core.specs.declared.view.InView.{InView}
use Rattle.port_core.specs.declared.view.InView.TheVariants.{Idle, Pulled, Finished}
use Rattle.port_core.specs.declared.view.OutView.{OutView}
use Rattle.port_core.specs.declared.view.OutView.TheVariants.{Unpulled, Available}
use Rattle.port_core.specs.View.{View, OneOne, unpulled_ports}
use Rattle.port_core.specs.Asking.{PullsStand}
use Rattle.port_core.specs.Call.{Call, given_on}
use Rattle.stream_model.specs.declared.kind.Kind.{Kind}
use Rattle.stream_model.specs.declared.kind.Kind.TheVariants.{Grouped, Fold, Reduce, Scan, Buffer}
use Rattle.stream_model.specs.declared.kind.Policy.TheVariants.{Backpressure}
use Rattle.stream_model.specs.Machine.{State, going, done, broken, Machine}
use Rattle.stream_model.specs.Linear.{Book, Work, Stage, scanning, linear, begin_work, work_of}
use Rattle.stream_model.specs.OneWay.{holds_at_end}
use Rattle.stage_core.specs.Held.{Held, owing, shut}
use Rattle.stage_core.specs.Row.{BothClosed}
use Rattle.stage_core.specs.Turn.{TurnAt}
use Rattle.stage_core.specs.declared.phase.Phase.{Phase}
use Rattle.stage_core.specs.declared.phase.Phase.TheVariants.{New, Open, Closed}
use Rattle.step_work.specs.Endings.{state_by}
use Rattle.step_work.specs.declared.ending.StateEnd.{StateEnd}
use Rattle.step_work.specs.declared.ending.StateEnd.TheVariants.{Lasting, Ended, Failed}
use Rattle.stage_state.specs.Buffering.{buffer}

-- where it stands, its stage in the model, the outputs that it owes, whether its output is asked, and how its input stands;
-- a buffer has a size
pub record Logic : Type 0 where
  pub phase : Phase
  pub stage : Stage
  pub pending : List Tree
  pub asked : Bool
  pub ending : StateEnd
  pub size : Option ℕ

-- its machine, by any book of plugs, since it asks none
abbrev pub machine_by : Book → Option ℕ → Work → Machine Stage Tree
machine_by book None w = linear book w
machine_by book (Some n) w = buffer n

-- its machine
abbrev pub machine : Book → Logic → Machine Stage Tree
machine book l = machine_by book l.size l.stage.work

-- what it still owes
abbrev pub held_in : Phase → StateEnd → List Tree → Stage → Held Stage
held_in New e p s = owing (record { gave = p; state = state_by e s })
held_in Open e p s = owing (record { gave = p; state = state_by e s })
held_in Closed e p s = shut

-- what it still owes
abbrev pub held : Logic → Held Stage
held l = held_in l.phase l.ending l.pending l.stage

-- ---- port states

-- a scan
abbrev pub IsScan : Work → Type 0
IsScan (scanning o a) = ⊤
IsScan _ = ⊥

-- it owes nothing, or the zero of a scan
abbrev pub Spare : Work → List Tree → Type 0
Spare w p = (p ≡ []) ⊎ ((length p ≡ 1) × IsScan w)

-- it may hold a value behind the end of its input
abbrev pub IsKept : Work → Type 0
IsKept w = holds_at_end w ≡ true

-- A stage that keeps: before its input ended it waits exactly where its output is asked, and owes nothing but a scan its
-- zero, which nobody asked for; behind the end of its input it owes one value, which nobody asked for.
abbrev pub keep_port_state : Phase → StateEnd → Bool → List Tree → Work → InView → OutView → Type 0
keep_port_state New Lasting false p w Idle Unpulled = Spare w p × IsKept w
keep_port_state Open Lasting true p w Pulled Available = (p ≡ []) × IsKept w
keep_port_state Open Lasting false p w Idle Unpulled = Spare w p × IsKept w
keep_port_state Open Ended false p w Finished Unpulled = (length p ≡ 1) × IsKept w
keep_port_state Open (Failed c) false p w Finished Unpulled = (length p ≡ 1) × IsKept w
keep_port_state Closed e a p w i o = BothClosed i o
keep_port_state _ _ _ _ _ _ _ = ⊥

-- A buffer of n: it holds nothing where its output is asked, waits while fewer than n are held, and then until it gave one;
-- behind the end of its input it holds something.
abbrev pub buffer_port_state : ℕ → Phase → StateEnd → Bool → List Tree → InView → OutView → Type 0
buffer_port_state n New Lasting false p Idle Unpulled = (p ≡ []) × (0 < n)
buffer_port_state n Open Lasting true p Pulled Available = (p ≡ []) × (0 < n)
buffer_port_state n Open Lasting false p Pulled Unpulled = length p < n
buffer_port_state n Open Lasting false p Idle Unpulled = (length p ≡ n) × (0 < n)
buffer_port_state n Open Ended false p Finished Unpulled = 0 < length p
buffer_port_state n Closed e a p i o = BothClosed i o
buffer_port_state _ _ _ _ _ _ _ = ⊥

-- by its size
abbrev pub port_state_by : Option ℕ → Phase → StateEnd → Bool → List Tree → Work → InView → OutView → Type 0
port_state_by None ph e a p w i o = keep_port_state ph e a p w i o
port_state_by (Some n) ph e a p w i o = buffer_port_state n ph e a p i o

-- what it knows of its one input and its one output
abbrev pub port_state : Logic → View → Type 0
port_state l v = OneOne (port_state_by l.size l.phase l.ending l.asked l.pending l.stage.work) v

-- ---- what a call owes

-- one step of its machine, which stays the same, as its size does; no action cancels an input that an earlier one asked; and
-- it was started
-- Choice: docs/DECISIONS.md#calls-keep-the-size
pub record Turned (call : Call) (old : Logic) (acts : List Act) (new : Logic) : Type 0 where
  pub turn : (book : Book) → TurnAt (machine book old) 0 call (held old) (given_on 0 acts) (held new)
  pub same : (book : Book) → machine book new ≡ machine book old
  pub size : new.size ≡ old.size
  pub stands : PullsStand acts
  pub started : new.phase ≢ New

-- ---- a new stage

-- the kinds that these stages are: what they give follows from what they take; a buffer has room for something
abbrev pub IsMachine : Kind → Type 0
IsMachine (Grouped n) = ⊤
IsMachine (Fold o) = ⊤
IsMachine (Reduce r) = ⊤
IsMachine (Scan o) = ⊤
IsMachine (Buffer n Backpressure) = 0 < n
IsMachine _ = ⊥

-- what a new stage of this kind owes: what its machine gives from the start
abbrev pub BeginsAs : Kind → ℕ → Decider → Logic → Type 0
BeginsAs (Buffer n p) node d new = (new.size ≡ Some n) × (held new ≡ owing (record { gave = []; state = going new.stage }))
BeginsAs kind node d new = (new.size ≡ None) × ((work_of kind ≡ Some new.stage.work) × (held new ≡ owing (begin_work node d new.stage.work)))

-- a new stage of this kind: it was not started, owes what its kind's machine gives from the start, and knows that nobody asked
pub record Begins (node : ℕ) (kind : Kind) (d : Decider) (new : Logic) : Type 0 where
  pub phase : new.phase ≡ New
  pub owes : BeginsAs kind node d new
  pub ready : port_state new unpulled_ports

-- a new stage that keeps, and owes these before any element
abbrev pub new_keep : ℕ → Decider → Work → List Tree → Logic
new_keep node d w p = record {
  phase = New;
  stage = record { node = node; decider = d; taken = 0; work = w };
  pending = p;
  asked = false;
  ending = Lasting;
  size = None;
}
