-- The state of a stage that splits, what it still owes, and its port state: what it knows of its ports.
use Rattle.std.specs.Prelude.{◌≡◌, ◌≢◌, ◌⊎◌, ◌<◌, ⊤, ℕ, Bool, true, false, List, [], ◌∷◌, ◌++◌, length, Option, Some, None, option_to_list}
use Rattle.stage_core.specs.Fans.{untagged}
use Rattle.elem_core.specs.Tree.{Tree}
use Rattle.elem_core.specs.declared.why.Cause.{Cause}
use Rattle.port_core.specs.declared.view.InView.{InView}
use Rattle.port_core.specs.declared.view.InView.TheVariants.{Idle, Pulled, Finished}
use Rattle.port_core.specs.declared.view.OutView.{OutView}
use Rattle.port_core.specs.declared.view.OutView.TheVariants.{Unpulled, Available}
use Rattle.port_core.specs.declared.act.Act.{Act}
use Rattle.port_core.specs.declared.act.Act.TheVariants.{Pull, Push, Complete, FailOut, Cancel}
use Rattle.port_core.specs.View.{View, OneOne}
use Rattle.port_core.specs.Asking.{PullsStand}
use Rattle.port_core.specs.Call.{Call, given_on}
use Rattle.port_core.specs.ListFunction.{ListFunction, Same}
use Rattle.stream_model.specs.Outlook.{End}
use Rattle.stream_model.specs.Machine.{State, going, done, Machine, Given}
use Rattle.stream_model.specs.FanIn.{Tagged}
use Rattle.stream_model.specs.Substreams.{Subs, substreams}
use Rattle.stage_core.specs.Held.{told, Held, owing, shut}
use Rattle.stage_core.specs.Row.{BothClosed}
use Rattle.stage_core.specs.Turn.{TurnAt}
use Rattle.stage_core.specs.declared.phase.Phase.{Phase}
use Rattle.stage_core.specs.declared.phase.Phase.TheVariants.{New, Open, Closed}
use Rattle.step_work.specs.Means.{Means}
use Rattle.stage_sub.specs.KeptSubs.{KeptSubs, opening_of, Keeps, MayCallKept}
use Rattle.stage_sub.specs.Joined.{joined_machine}
use Rattle.stage_sub.specs.Moves.{noted, port_in, first_output, arising}
use Rattle.stage_sub.specs.declared.opening.OpenBy.{OpenBy}
use Rattle.stage_sub.specs.declared.blame.Blame.{Blame}
use Rattle.stage_sub.specs.declared.blame.Blame.TheVariants.{AtElement, AtEnd}

-- where it stands, its number, how many elements it took, how it splits, the chain that each substream goes through, the last
-- substream, the outputs that it holds, and whether its input has ended while it holds them; and its moves where it is a merge
pub record Logic (C : Type 0) : Type 0 where
  pub phase : Phase
  pub node : ℕ
  pub taken : ℕ
  pub how : OpenBy
  pub chain : C
  pub kept : KeptSubs C
  pub pending : List Tagged
  pub asked : Bool
  pub over : Bool
  pub moves : Option (List ℕ)

-- the stage before its start
abbrev pub begun : {C : Type 0} → ℕ → OpenBy → Option (List ℕ) → C → Logic C
begun node how moves chain = record {
  phase = New;
  node = node;
  taken = 0;
  how = how;
  chain = chain;
  kept = record { last = record { ended = 0; live = false; slot = None }; places = []; slots = [] };
  pending = [];
  asked = false;
  over = false;
  moves = moves;
}

-- its port state: before its start nobody asked; then it asks where its output is asked and nothing is held; once its input has
-- ended it holds something; or all is closed
abbrev pub port_state_in : Phase → Bool → Bool → List Tagged → InView → OutView → Type 0
port_state_in New false false p Idle Unpulled = p ≡ []
port_state_in Open false true p Pulled Available = p ≡ []
port_state_in Open false false p Idle Unpulled = ⊤
port_state_in Open true false p Finished Unpulled = 0 < length p
port_state_in Closed over asked p i o = BothClosed i o
port_state_in _ _ _ _ _ _ = ⊥

-- what it knows of its one input and its one output
abbrev pub port_state : {C : Type 0} → Logic C → View → Type 0
port_state l v = OneOne (port_state_in l.phase l.over l.asked l.pending) v

-- the cause of a failure at the n-th element
abbrev pub cause_of_blame : ℕ → ℕ → Blame → Cause
cause_of_blame node n (AtElement w) = record { stage = node; nth = n; why = w }
cause_of_blame node n (AtEnd w) = record { stage = node; nth = 0; why = w }

module _ {C : Type 0} (rest : C → ListFunction) (is_open : C → Bool) (f : ListFunction) (yields : List Tree → End → Given Tree) where
  -- the state of its machine: its input goes on, with these substreams, or has ended
  abbrev pub StateIs : Bool → Logic C → State Subs → Type 0
  StateIs false l st = (s : Subs) × ((st ≡ going s) × ((s.node ≡ l.node) × ((s.taken ≡ l.taken) × Keeps rest is_open f yields l.how l.kept s.subs)))
  StateIs true l st = st ≡ done

  -- what it still owes, by where it stands: the outputs that it holds, and what its machine's state says; or it is closed
  abbrev pub OwesIn : Phase → Logic C → Held Subs → Type 0
  OwesIn New l (owing x) = (x.gave ≡ untagged l.pending) × StateIs l.over l x.state
  OwesIn Open l (owing x) = (x.gave ≡ untagged l.pending) × StateIs l.over l x.state
  OwesIn Closed l shut = ⊤
  OwesIn _ _ _ = ⊥

  -- what it still owes
  abbrev pub Owes : Logic C → Held Subs → Type 0
  Owes l x = OwesIn l.phase l x

-- What a stage held and what arose by the call goes out in that order, and the others are held; or nothing goes out any more.
abbrev pub QueuesOutputs : {C : Type 0} → Machine Subs Tagged → Call → Held Subs → Logic C → Option Tagged → Logic C → Type 0
QueuesOutputs m call shut old gave new = (gave ≡ None) × (new.phase ≡ Closed)
QueuesOutputs m call (owing x) old gave new = (option_to_list gave ++ new.pending ≡ old.pending ++ arising m call x.state)
    ⊎ ((gave ≡ None) × (new.phase ≡ Closed))

-- Whatever its chains come to in the model, one step of its machine: from what it owed to what it owes, the outputs in the
-- order in which they arose. It gave one output or none, and then perhaps an end; a merge noted the number of that output's
-- substream. No action cancels an input that an earlier one asked; and it was started.
pub record Turned {C : Type 0} (whole rest : C → ListFunction) (is_open : C → Bool) (call : Call) (old : Logic C) (acts : List Act) (new : Logic C)
    : Type 0 where
  pub gave : Option Tagged
  pub closing : End
  pub out : given_on 0 acts ≡ told (untagged (option_to_list gave)) closing
  pub turn : (f : ListFunction) → Same (whole old.chain) f → (yields : List Tree → End → Given Tree) → Means yields f → (x : Held Subs)
      → Owes rest is_open f yields old x
      → (y : Held Subs) × (Owes rest is_open f yields new y × (TurnAt (joined_machine yields (opening_of old.how)) 0 call x (given_on 0 acts) y
      × QueuesOutputs (substreams yields (opening_of old.how)) call x old gave new))
  pub moves : new.moves ≡ noted old.moves (port_in gave)
  pub node : new.node ≡ old.node
  pub how : new.how ≡ old.how
  pub chain : new.chain ≡ old.chain
  pub stands : PullsStand acts
  pub started : new.phase ≢ New

-- its chains may be called
abbrev pub Ready : {C : Type 0} → (C → ListFunction) → (C → Bool) → Logic C → Type 0
Ready rest is_open l = MayCallKept rest is_open l.kept

-- ---- what it does

-- the first of what is held goes out, or it asks
abbrev pub first_out : {C : Type 0} → Logic C → List Tagged → Logic C
first_out l [] = l
first_out l (o ∷ os) = record l { pending = os; asked = false }

-- its actions then
abbrev pub first_acts : List Tagged → List Act
first_acts [] = Pull 0 ∷ []
first_acts (o ∷ os) = Push 0 o.item ∷ []

-- the stage once its n-th element came to this
abbrev pub answered : {C : Type 0} → Logic C → ℕ → Option Blame → Logic C
answered l n None = record (first_out l l.pending) { taken = n }
answered l n (Some b) = record l { phase = Closed }

-- its actions then: an output or an ask; or it fails, and cancels its input
abbrev pub answer_acts : {C : Type 0} → Logic C → ℕ → Option Blame → List Act
answer_acts l n None = first_acts l.pending
answer_acts l n (Some b) = FailOut 0 (cause_of_blame l.node n b) ∷ Cancel 0 ∷ []

-- the output that goes out then
abbrev pub answer_gave : {C : Type 0} → Logic C → Option Blame → Option Tagged
answer_gave l None = first_output l.pending
answer_gave l (Some b) = None

-- the output was asked: the first of what is held goes out, and the stage ends with the last, where its input has ended; or it asks
abbrev pub emptied : {C : Type 0} → Bool → Logic C → List Tagged → Logic C
emptied true l [] = record l { phase = Closed; pending = [] }
emptied true l (o ∷ os) = record l { pending = o ∷ os }
emptied false l os = record l { pending = os }

-- its actions then: it completes where its input has ended and nothing is left
abbrev pub emptied_acts : Bool → List Tagged → List Act
emptied_acts true [] = Complete 0 ∷ []
emptied_acts true (o ∷ os) = []
emptied_acts false os = []

-- the stage once the output was asked: the first of what it holds goes out, or it waits for its input
abbrev pub pulled : {C : Type 0} → Logic C → List Tagged → Logic C
pulled l [] = record l { asked = true }
pulled l (o ∷ os) = emptied l.over l os

-- its actions then
abbrev pub pulled_acts : Bool → List Tagged → List Act
pulled_acts over [] = Pull 0 ∷ []
pulled_acts over (o ∷ os) = Push 0 o.item ∷ emptied_acts over os

-- the input has ended, and these are held; where the output is asked the first goes out
abbrev pub sealed : {C : Type 0} → Bool → Logic C → List Tagged → Logic C
sealed asked l [] = record l { phase = Closed }
sealed false l (o ∷ os) = record l { over = true }
sealed true l (o ∷ os) = record (emptied true l os) { over = true; asked = false }

-- its actions then
abbrev pub sealed_acts : Bool → List Tagged → List Act
sealed_acts asked [] = Complete 0 ∷ []
sealed_acts false (o ∷ os) = []
sealed_acts true (o ∷ os) = Push 0 o.item ∷ emptied_acts true os

-- the output that went out then, if one did
abbrev pub sealed_gave : Bool → List Tagged → Option Tagged
sealed_gave false p = None
sealed_gave true p = first_output p

-- the stage once the end of its input came to this: what is held and what arose goes out, or it fails
abbrev pub finished : {C : Type 0} → Logic C → Option Blame → Logic C
finished l None = sealed l.asked l l.pending
finished l (Some b) = record l { phase = Closed }

-- its actions then
abbrev pub finish_acts : {C : Type 0} → Logic C → Option Blame → List Act
finish_acts l None = sealed_acts l.asked l.pending
finish_acts l (Some b) = FailOut 0 (cause_of_blame l.node 0 b) ∷ []

-- the output that went out then, if one did
abbrev pub finish_gave : {C : Type 0} → Logic C → Option Blame → Option Tagged
finish_gave l None = sealed_gave l.asked l.pending
finish_gave l (Some b) = None

-- the output was cancelled: the input is, where it has not ended
abbrev pub cancel_acts : Bool → List Act
cancel_acts true = []
cancel_acts false = Cancel 0 ∷ []
