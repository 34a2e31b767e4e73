-- A stage with substreams as a whole: its logic, and the moves that it follows, where it does. One that follows moves gives next the first
-- output of the substream that the next move names; it asks where its output is asked and it holds nothing; and it stops where it is asked
-- and cannot make the next move.
use Rattle.std.specs.Prelude.{◌≡◌, ◌≢◌, ◌⊎◌, Bool, true, false, ℕ, List, [], ◌∷◌, ◌++◌, Option, None, Some, option_to_list}
use Rattle.std.specs.Option.{unwrap_or}
use Rattle.elem_core.specs.Tree.{Tree}
use Rattle.elem_core.specs.declared.item.Item.TheVariants as item
use Rattle.elem_core.specs.declared.why.Cause.{Cause}
use Rattle.port_core.specs.Picks.{Picks, next_move, behind_next, may_end, plan_of, misfit_by}
use Rattle.port_core.specs.declared.pick_log.Next.{Next}
use Rattle.port_core.specs.declared.pick_log.Next.TheVariants.{Free, Move, UsedUp}
use Rattle.port_core.specs.declared.act.Act.{Act}
use Rattle.port_core.specs.declared.act.Act.TheVariants.{Pull, Push, Complete, FailOut, Cancel}
use Rattle.port_core.specs.declared.view.InView.{InView}
use Rattle.port_core.specs.declared.view.InView.TheVariants.{Idle, Pulled, Finished, Cancelled}
use Rattle.port_core.specs.declared.view.OutView.{OutView}
use Rattle.port_core.specs.View.{View, OneOne}
use Rattle.port_core.specs.Asking.{PullsStand}
use Rattle.port_core.specs.Call.{Call, arrives, cancels, given_on}
use Rattle.port_core.specs.ListFunction.{ListFunction, Same}
use Rattle.stream_model.specs.Outlook.{End, unended, ended, failed}
use Rattle.stream_model.specs.Machine.{State, going, done, broken, Finish, adds, refuses, Machine, Given}
use Rattle.stream_model.specs.FanIn.{Tagged}
use Rattle.stream_model.specs.Substreams.{Subs, substreams}
use Rattle.stage_core.specs.Fans.{untagged}
use Rattle.stage_core.specs.Held.{told}
use Rattle.stage_core.specs.Row.{BothClosed}
use Rattle.stage_core.specs.Seats.{wish}
use Rattle.stage_core.specs.declared.phase.Phase.{Phase}
use Rattle.stage_core.specs.declared.phase.Phase.TheVariants.{New, Open, Closed}
use Rattle.step_work.specs.Means.{Means}
use Rattle.stage_sub.specs.KeptSubs.{opening_of}
use Rattle.stage_sub.specs.Moves.{noted, port_in, arising}
use Rattle.stage_sub.specs.Picking.{first_of_sub, of_number}
use Rattle.stage_sub.specs.States as free
use Rattle.stage_sub.specs.declared.blame.Blame.{Blame}
use Rattle.stage_sub.specs.States.{Logic, StateIs, cause_of_blame}

-- its logic; those of the moves that it follows which it has not made, where it follows any; and whether it cannot make the next of them
pub record Led (C : Type 0) : Type 0 where
  pub logic : Logic C
  pub left : Option (List ℕ)
  pub stuck : Bool

-- the moves that it made
abbrev pub made_moves : {C : Type 0} → Led C → List ℕ
made_moves l = unwrap_or l.logic.moves []

-- all the moves that it follows, where it follows any
abbrev pub sub_plan : {C : Type 0} → Led C → Option (List ℕ)
sub_plan l = plan_of (made_moves l) l.left

-- the place of the move that it cannot make, where it has a log
abbrev pub misfit_at : Bool → Option (List ℕ) → Option ℕ
misfit_at stuck None = None
misfit_at stuck (Some moves) = misfit_by stuck moves

-- the same of the stage
abbrev pub sub_misfit : {C : Type 0} → Led C → Option ℕ
sub_misfit l = misfit_at l.stuck l.logic.moves

-- ---- its ports

-- it waits for its input where its output is asked and it holds nothing
abbrev pub led_input_by : Bool → List Tagged → InView
led_input_by true [] = Pulled
led_input_by true (o ∷ os) = Idle
led_input_by false p = Idle

-- the same by whether its input has ended
abbrev pub led_input : Bool → Bool → List Tagged → InView
led_input true asked p = Finished
led_input false asked p = led_input_by asked p

-- What a stage that follows moves knows between two calls: where it is asked and holds something, its moves are all made; and where its input
-- has ended and it holds nothing, a move is to be made and nobody asks it.
pub record LedRests {C : Type 0} (l : Led C) (x : InView) (y : OutView) : Type 0 where
  pub input : x ≡ led_input l.logic.over l.logic.asked l.logic.pending
  pub output : y ≡ wish l.logic.asked
  pub logs : l.logic.moves ≢ None
  pub holds : l.logic.asked ≡ true → l.logic.pending ≢ [] → may_end (next_move l.left) ≡ true
  pub over : l.logic.over ≡ true → l.logic.pending ≡ [] → (may_end (next_move l.left) ≡ false) × (l.logic.asked ≡ false)

-- before its start it holds nothing, and nobody asked
pub record LedFresh {C : Type 0} (l : Led C) (x : InView) (y : OutView) : Type 0 where
  pub rests : LedRests l x y
  pub empty : l.logic.pending ≡ []
  pub going : l.logic.over ≡ false
  pub unasked : l.logic.asked ≡ false

-- its two ports where it can go on, by where it stands
abbrev pub led_at : {C : Type 0} → Led C → Phase → InView → OutView → Type 0
led_at l New x y = LedFresh l x y
led_at l Open x y = LedRests l x y
led_at l Closed x y = BothClosed x y

-- One that cannot make its next move does nothing more; it cancelled no input, and waits for none.
pub record LedHalted {C : Type 0} (l : Led C) (x : InView) : Type 0 where
  pub phase_is : l.logic.phase ≡ Open
  pub uncancelled : x ≢ Cancelled
  pub unpulled : x ≢ Pulled

-- its two ports, by whether it stopped
abbrev pub led_in : {C : Type 0} → Bool → Led C → InView → OutView → Type 0
led_in false l x y = led_at l l.logic.phase x y
led_in true l x y = LedHalted l x

-- its port state, by whether it follows moves
abbrev pub port_state_by : {C : Type 0} → Option (List ℕ) → Led C → View → Type 0
port_state_by None l v = free.port_state l.logic v
port_state_by (Some left) l v = OneOne (led_in l.stuck l) v

-- its port state
abbrev pub led_port_state : {C : Type 0} → Led C → View → Type 0
led_port_state l v = port_state_by l.left l v

-- ---- one step

-- the state of the machine once the call came
abbrev pub then_state : Machine Subs Tagged → Call → State Subs → State Subs
then_state m (arrives i (item.Elem t)) (going s) = (m.step s t).state
then_state m (arrives i item.Ended) (going s) = done
then_state m _ st = st

-- an end of the input adds what it adds
abbrev pub EndAdds : Finish Tagged → Type 0
EndAdds (adds l) = Unit {0}
EndAdds (refuses c) = ⊥

-- an end of the input fails none
abbrev pub EndsWell : Machine Subs Tagged → Call → State Subs → Type 0
EndsWell m (arrives i item.Ended) (going s) = EndAdds (m.finish s)
EndsWell m _ st = Unit {0}

-- it may go on behind the call: no failure came, and where an element came nothing was held
abbrev pub MayGoOn : Call → List Tagged → Type 0
MayGoOn (arrives i (item.Elem t)) p = p ≡ []
MayGoOn (arrives i (item.Failed c)) p = ⊥
MayGoOn _ p = Unit {0}

-- whether its input has ended behind the call
abbrev pub over_after : Call → Bool → Bool
over_after (arrives i item.Ended) over = true
over_after _ over = over

-- one of these went out, the first of its substream, or none did; and the others are left
abbrev pub TakenFrom : Option Tagged → List Tagged → List Tagged → Type 0
TakenFrom None l r = r ≡ l
TakenFrom (Some x) l r = first_of_sub x.port l ≡ Some (x, r)

-- the next move cannot be made: none of its substream is held, and others are, or no more will come
abbrev pub LostAt : Next → List Tagged → Bool → Type 0
LostAt (Move n) p over = (of_number n p ≡ []) × ((over ≡ true) ⊎ (p ≢ []))
LostAt _ p over = ⊥

module _ {C : Type 0} (rest : C → ListFunction) (is_open : C → Bool) (f : ListFunction) (yields : List Tree → End → Given Tree) (m : Machine Subs Tagged) where
  -- A step of one that follows moves, by the state of its machine: it goes on, and may have found that it cannot make its next move; or it
  -- ends behind all; or it fails, at an element, at the end of its input or with it; or its output was cancelled.
  pub data LedStep (call : Call) (old : Led C) (gave : Option Tagged) (closing : End) (new : Led C) (st : State Subs) : Type 0 where
    goes : closing ≡ unended → new.logic.phase ≡ Open → TakenFrom gave (old.logic.pending ++ arising m call st) new.logic.pending
        → new.logic.over ≡ over_after call old.logic.over
        → StateIs rest is_open f yields new.logic.over new.logic (then_state m call st) → EndsWell m call st → MayGoOn call old.logic.pending
        → (new.stuck ≡ true → LostAt (next_move new.left) new.logic.pending new.logic.over) → LedStep call old gave closing new st
    ends : closing ≡ ended → new.logic.phase ≡ Closed → new.stuck ≡ false → TakenFrom gave (old.logic.pending ++ arising m call st) []
        → over_after call old.logic.over ≡ true → EndsWell m call st → MayGoOn call old.logic.pending
        → LedStep call old gave closing new st
    breaks : (t : Tree) (c : Cause) → call ≡ arrives 0 (item.Elem t) → old.logic.pending ≡ [] → then_state m call st ≡ broken c → arising m call st ≡ []
        → gave ≡ None → closing ≡ failed c → new.logic.phase ≡ Closed → new.stuck ≡ false
        → LedStep call old gave closing new st
    refuses_end : (s : Subs) (c : Cause) → call ≡ arrives 0 item.Ended → st ≡ going s → m.finish s ≡ refuses c → gave ≡ None → closing ≡ failed c
        → new.logic.phase ≡ Closed → new.stuck ≡ false
        → LedStep call old gave closing new st
    fails : (s : Subs) (c : Cause) → call ≡ arrives 0 (item.Failed c) → st ≡ going s → gave ≡ None → closing ≡ failed c → new.logic.phase ≡ Closed
        → new.stuck ≡ false → LedStep call old gave closing new st
    leaves : call ≡ cancels 0 → gave ≡ None → closing ≡ unended → new.logic.phase ≡ Closed → new.stuck ≡ false → LedStep call old gave closing new st

-- What a call owes of one that follows moves, whatever its chains come to in the model: a step, where it has not stopped; and nothing is done
-- where it has. The move of each output is noted, and what it follows stays.
pub record Followed {C : Type 0} (whole rest : C → ListFunction) (is_open : C → Bool) (call : Call) (old : Led C) (acts : List Act) (new : Led C) : Type 0 where
  pub gave : Option Tagged
  pub closing : End
  pub out : given_on 0 acts ≡ told (untagged (option_to_list gave)) closing
  pub step : old.stuck ≡ false → (f : ListFunction) → Same (whole old.logic.chain) f → (yields : List Tree → End → Given Tree) → Means yields f
      → (st : State Subs) → StateIs rest is_open f yields old.logic.over old.logic st
      → LedStep rest is_open f yields (substreams yields (opening_of old.logic.how)) call old gave closing new st
  pub moves : new.logic.moves ≡ noted old.logic.moves (port_in gave)
  pub follows : new.left ≢ None
  pub plan : sub_plan new ≡ sub_plan old
  pub node : new.logic.node ≡ old.logic.node
  pub how : new.logic.how ≡ old.logic.how
  pub chain : new.logic.chain ≡ old.logic.chain
  pub stands : PullsStand acts
  pub started : new.logic.phase ≢ New
  pub still : old.stuck ≡ true → (acts ≡ []) × (new ≡ old)

-- what a call owes of one that follows none
pub record Unled {C : Type 0} (whole rest : C → ListFunction) (is_open : C → Bool) (call : Call) (old : Led C) (acts : List Act) (new : Led C) : Type 0 where
  pub turn : free.Turned whole rest is_open call old.logic acts new.logic
  pub left : new.left ≡ None
  pub stuck : new.stuck ≡ old.stuck

-- what a call owes, by whether the stage follows moves
abbrev pub turned_by : {C : Type 0} → Option (List ℕ) → (C → ListFunction) → (C → ListFunction) → (C → Bool) → Call → Led C → List Act → Led C → Type 0
turned_by None whole rest is_open call old acts new = Unled whole rest is_open call old acts new
turned_by (Some left) whole rest is_open call old acts new = Followed whole rest is_open call old acts new

-- the same of the stage
abbrev pub LedTurned : {C : Type 0} → (C → ListFunction) → (C → ListFunction) → (C → Bool) → Call → Led C → List Act → Led C → Type 0
LedTurned whole rest is_open call old acts new = turned_by old.left whole rest is_open call old acts new

-- ---- what it does

-- the first of its substream went out, which is noted
abbrev pub gave_of : {C : Type 0} → ℕ → List Tagged → Led C → Led C
gave_of n os l =
    record { logic = record l.logic { pending = os; asked = false; moves = noted l.logic.moves (Some n) }; left = behind_next l.left; stuck = l.stuck }

-- with its output asked
abbrev pub asked_now : {C : Type 0} → Led C → Led C
asked_now l = record l { logic = record l.logic { asked = true } }

-- with so many elements taken
abbrev pub taken_now : {C : Type 0} → ℕ → Led C → Led C
taken_now n l = record l { logic = record l.logic { taken = n } }

-- with its input ended
abbrev pub over_now : {C : Type 0} → Led C → Led C
over_now l = record l { logic = record l.logic { over = true } }

-- with its ports closed
abbrev pub closed_now : {C : Type 0} → Led C → Led C
closed_now l = record l { logic = record l.logic { phase = Closed } }

-- the stage that found that it cannot go on
abbrev pub stuck_now : {C : Type 0} → Led C → Led C
stuck_now l = record l { stuck = true }

-- where it is asked, the first output of the substream of the next move goes out; or none of it is held
pub data LedServing {C : Type 0} (old : Led C) (gave : Option Tagged) (new : Led C) (acts : List Act) : Type 0 where
  gives : (n : ℕ) (x : Tagged) (os : List Tagged) → old.logic.asked ≡ true → next_move old.left ≡ Move n → first_of_sub n old.logic.pending ≡ Some (x, os)
      → gave ≡ Some x → new ≡ gave_of n os old → acts ≡ Push 0 x.item ∷ [] → LedServing old gave new acts
  keeps : (old.logic.asked ≡ true → (n : ℕ) → next_move old.left ≡ Move n → first_of_sub n old.logic.pending ≡ None) → gave ≡ None → new ≡ old → acts ≡ []
      → LedServing old gave new acts

-- the same, whichever it gave
pub record LedServed {C : Type 0} (old new : Led C) (acts : List Act) : Type 0 where
  pub gave : Option Tagged
  pub serving : LedServing old gave new acts

-- the end of a call: it ends, stops, asks its input, or rests
pub data LedSettling {C : Type 0} (before : List Act) (old new : Led C) (acts : List Act) : Type 0 where
  completes : old.logic.over ≡ true → old.logic.pending ≡ [] → may_end (next_move old.left) ≡ true → new ≡ closed_now old → acts ≡ before ++ Complete 0 ∷ []
      → LedSettling before old new acts
  stops : old.logic.asked ≡ true → may_end (next_move old.left) ≡ false → (old.logic.over ≡ true) ⊎ (old.logic.pending ≢ []) → new ≡ stuck_now old
      → acts ≡ before → LedSettling before old new acts
  asks : old.logic.asked ≡ true → old.logic.over ≡ false → old.logic.pending ≡ [] → new ≡ old → acts ≡ before ++ Pull 0 ∷ [] → LedSettling before old new acts
  rests : (old.logic.asked ≡ true → (old.logic.pending ≢ []) × (may_end (next_move old.left) ≡ true))
      → (old.logic.over ≡ true → old.logic.pending ≡ [] → may_end (next_move old.left) ≡ false) → new ≡ old → acts ≡ before → LedSettling before old new acts

-- both, one behind the other
pub record LedGoesOn {C : Type 0} (old new : Led C) (acts : List Act) : Type 0 where
  pub mid : Led C
  pub between : List Act
  pub serves : LedServed old mid between
  pub settles : LedSettling between mid new acts

-- what an element came to: the stage fails, or goes on
abbrev pub TookUp : {C : Type 0} → ℕ → Option Blame → Led C → Led C → List Act → Type 0
TookUp n None old new acts = LedGoesOn (taken_now n old) new acts
TookUp n (Some b) old new acts = (new ≡ closed_now old) × (acts ≡ FailOut 0 (cause_of_blame old.logic.node n b) ∷ Cancel 0 ∷ [])

-- what the end of the input came to
abbrev pub EndedUp : {C : Type 0} → Option Blame → Led C → Led C → List Act → Type 0
EndedUp None old new acts = LedGoesOn (over_now old) new acts
EndedUp (Some b) old new acts = (new ≡ closed_now old) × (acts ≡ FailOut 0 (cause_of_blame old.logic.node 0 b) ∷ [])

-- whether the first output of substream n that is held went out
abbrev pub GivesOf : {C : Type 0} → ℕ → Bool → Logic C → Logic C → List Act → List Act → Type 0
GivesOf n true old new before acts = (x : Tagged) × ((os : List Tagged)
    × ((first_of_sub n old.pending ≡ Some (x, os)) × ((new ≡ record old { pending = os; asked = false }) × (acts ≡ before ++ Push 0 x.item ∷ []))))
GivesOf n false old new before acts = (first_of_sub n old.pending ≡ None) × ((new ≡ old) × (acts ≡ before))

-- ---- its log

-- the moves that are left of those that a log follows
abbrev pub left_in : Option Picks → Option (List ℕ)
left_in None = None
left_in (Some p) = p.left

-- whether a log was marked
abbrev pub stuck_in : Option Picks → Bool
stuck_in None = false
stuck_in (Some p) = p.stuck

-- this is the next of the moves that are followed
abbrev pub IsNextMove : ℕ → Option (List ℕ) → Type 0
IsNextMove n None = ⊥
IsNextMove n (Some []) = ⊥
IsNextMove n (Some (k ∷ l)) = k ≡ n
