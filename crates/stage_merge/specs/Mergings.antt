-- The state of a merge, its port state, and what its handlers owe. One that gathers, as a merge hub does, takes a failure of an input
-- for its end.
use Rattle.std.specs.Prelude.{◌≡◌, ◌≢◌, ◌⊎◌, ℕ, suc, ◌+◌, ◌-◌, ◌==◌, ◌≤◌, ◌<◌, replicate, if◌then◌else◌, Bool, true, false, List, [], ◌∷◌, ◌++◌, length, slice_get, slice_set, slice_index_or, Option, None, Some, ⊤}
use Rattle.std.specs.Option.{option_map}
use Rattle.elem_core.specs.Tree.{Tree}
use Rattle.elem_core.specs.declared.item.Item.{Item}
use Rattle.elem_core.specs.declared.why.Cause.{Cause}
use Rattle.port_core.specs.Picks.{Picks, planned, next_move, may_end, logged}
use Rattle.port_core.specs.declared.pick_log.Next.{Next}
use Rattle.port_core.specs.declared.pick_log.Next.TheVariants.{Free, Move, UsedUp}
use Rattle.port_core.specs.declared.act.Act.{Act}
use Rattle.port_core.specs.declared.act.Act.TheVariants.{Pull, Push, Complete, FailOut}
use Rattle.port_core.specs.declared.view.InView.{InView}
use Rattle.port_core.specs.declared.view.InView.TheVariants.{Idle, Pulled, Finished, Cancelled}
use Rattle.port_core.specs.declared.view.OutView.TheVariants.{Unpulled}
use Rattle.port_core.specs.View.{View}
use Rattle.port_core.specs.Asking.{PullsStand}
use Rattle.port_core.specs.Call.{Call, given_on}
use Rattle.stream_model.specs.FanIn.{Inflow}
use Rattle.stream_model.specs.Outlook.{End, unended, ended}
use Rattle.stream_model.specs.Picks.{all_below, count_of, softened_by}
use Rattle.stream_model.specs.declared.kind.TheConstants.{MAX_FAN}
use Rattle.stage_core.specs.Merges.{MergeHeld, waits, shut, Merged, MergeTurnAt, MergeKeeps}
use Rattle.stage_core.specs.PortsLaws.{InPortsLaw}
use Rattle.stage_core.specs.declared.phase.Phase.{Phase}
use Rattle.stage_core.specs.declared.phase.Phase.TheVariants.{New, Open, Closed}
use Rattle.stage_merge.specs.declared.merging.Queued.{Queued}
use Rattle.stage_core.specs.Seats.{wish, FanClosed, end_by, open_cancels}

-- where it stands; which inputs have ended; what waits, first come first, and the room for it; whether the output is asked; how many
-- inputs have not ended
pub record Core : Type 0 where
  pub phase : Phase
  pub over : List Bool
  pub queue : List Queued
  pub room : ℕ
  pub asked : Bool
  pub left : ℕ

-- the same with its log, and whether it gathers
pub record Merging : Type 0 where
  pub log : Picks
  pub gathers : Bool
  pub core : Core

-- ---- what is chosen

-- what was found behind an element that stays in front
abbrev pub kept_before : Queued → Queued × List Queued → Queued × List Queued
kept_before y r = (r.0, y ∷ r.1)

-- the first that waits of input m, and the others
abbrev pub first_queued : ℕ → List Queued → Option (Queued × List Queued)
first_queued m [] = None
first_queued m (x ∷ q) = if x.port == m then Some (x, q) else option_map (kept_before x) (first_queued m q)

-- the one that came first, and the others
abbrev pub front : List Queued → Option (Queued × List Queued)
front [] = None
front (x ∷ q) = Some (x, q)

-- The one that goes out next where the output is asked: the one that came first, or where moves are followed the one of the input
-- that the next move names.
abbrev pub goes_next : Next → List Queued → Option (Queued × List Queued)
goes_next Free q = front q
goes_next (Move m) q = first_queued m q
goes_next UsedUp q = None

-- the input that the next move names has ended
abbrev pub lost : Next → List Bool → Bool
lost Free over = false
lost (Move m) over = slice_index_or over m false
lost UsedUp over = false

-- an element that comes where the output is asked is the one that goes out: whatever comes, or where moves are followed one of the input
-- that the next move names
abbrev pub passes_at_once : Next → ℕ → Bool
passes_at_once Free i = true
passes_at_once (Move m) i = i == m
passes_at_once UsedUp i = false

-- each move that is followed names an input
abbrev pub NamesInputs : ℕ → Option (List ℕ) → Type 0
NamesInputs n None = ⊤
NamesInputs n (Some moves) = all_below n moves ≡ true

-- ---- what waits

-- what waits of input n
abbrev pub of_port : ℕ → List Queued → List Tree
of_port n [] = []
of_port n (x ∷ q) = if x.port == n then x.item ∷ of_port n q else of_port n q

-- the inputs from number n on, by what waits
abbrev pub waiting : ℕ → List Bool → List Queued → List Inflow
waiting n [] q = []
waiting n (b ∷ bs) q = record { list = of_port n q; end = end_by b } ∷ waiting (n + 1) bs q

-- what is known of an input: it is asked where nothing of it waits
abbrev pub input_view : Bool → List Tree → InView
input_view true l = Finished
input_view false [] = Pulled
input_view false (t ∷ l) = Idle

-- the inputs from number n on
abbrev pub places : ℕ → List Bool → List Queued → List InView
places n [] q = []
places n (b ∷ bs) q = input_view b (of_port n q) ∷ places (n + 1) bs q

-- before the start
abbrev pub idles : List Bool → List InView
idles [] = []
idles (b ∷ bs) = Idle ∷ idles bs

-- each that has not ended is asked, from number n on
abbrev pub pull_acts : ℕ → List Bool → List Act
pull_acts n [] = []
pull_acts n (true ∷ bs) = pull_acts (n + 1) bs
pull_acts n (false ∷ bs) = Pull n ∷ pull_acts (n + 1) bs

-- how many have not ended
abbrev pub open_count : List Bool → ℕ
open_count [] = 0
open_count (true ∷ bs) = open_count bs
open_count (false ∷ bs) = suc (open_count bs)

-- what waits is of inputs that are there
abbrev pub PortsThere : List Bool → List Queued → Type 0
PortsThere over [] = ⊤
PortsThere over (x ∷ q) = (x.port < length over) × PortsThere over q

-- what it knows of its ports once it was started: an input is asked where nothing of it waits and it has not ended
abbrev pub view_of : Core → View
view_of l = record { ins = places 0 l.over l.queue; outs = wish l.asked ∷ [] }

-- what it knows of its ports before its start: nothing came to them
abbrev pub new_view : Core → View
new_view l = record { ins = idles l.over; outs = Unpulled ∷ [] }

-- one that is open, whether its output is asked or not
pub record OpenCore (plan : Option (List ℕ)) (l : Core) : Type 0 where
  pub count : l.left ≡ open_count l.over
  pub some : may_end (next_move plan) ≡ true → l.queue ≡ [] → 1 ≤ l.left
  pub once : (n : ℕ) → length (of_port n l.queue) ≤ 1
  pub there : PortsThere l.over l.queue
  pub few : length l.over ≤ MAX_FAN
  pub roomy : length l.over ≤ l.room
  pub named : NamesInputs (length l.over) plan

-- and where it is asked, what is to go out next does not wait, but may come
pub record Sound (plan : Option (List ℕ)) (l : Core) : Type 0 where
  pub whole : OpenCore plan l
  pub none : l.asked ≡ true → goes_next (next_move plan) l.queue ≡ None
  pub going : l.asked ≡ true → lost (next_move plan) l.over ≡ false

-- nothing came to it
pub record Fresh (l : Core) : Type 0 where
  pub queue : l.queue ≡ []
  pub over : l.over ≡ replicate (length l.over) false
  pub unasked : l.asked ≡ false

-- its port state where it can go on, by where it stands and by the moves that are left
abbrev pub port_state_by : Phase → Option (List ℕ) → Core → View → Type 0
port_state_by New plan l v = (v ≡ new_view l) × (Sound plan l × Fresh l)
port_state_by Open plan l v = (v ≡ view_of l) × Sound plan l
port_state_by Closed plan l v = FanClosed v

-- one that cannot make its next move does nothing more; it cancelled no input
pub record Stopped (l : Core) (v : View) : Type 0 where
  pub phase_is : l.phase ≡ Open
  pub few : length l.over ≤ MAX_FAN
  pub many : length v.ins ≡ length l.over
  pub one : length v.outs ≡ 1
  pub uncancelled : (i : ℕ) → slice_get v.ins i ≢ Some Cancelled

-- its port state, by whether it stopped
abbrev pub port_state_in : Bool → Merging → View → Type 0
port_state_in false l v = port_state_by l.core.phase l.log.left l.core v
port_state_in true l v = Stopped l.core v

-- its port state
abbrev pub port_state : Merging → View → Type 0
port_state l v = port_state_in l.log.stuck l v

-- ---- the law

-- what it still owes, or which move it cannot make and those that it made
pub data Obligation : Type 0 where
  serves : MergeHeld → Obligation
  stopped : Next → List ℕ → Obligation

-- what it still owes, by its moves
abbrev pub held_by : Phase → List ℕ → Core → MergeHeld
held_by New moves l = waits moves (waiting 0 l.over l.queue)
held_by Open moves l = waits moves (waiting 0 l.over l.queue)
held_by Closed moves l = shut moves

-- what it still owes, by the moves in its log
abbrev pub owed_by_log : Merging → MergeHeld
owed_by_log l = held_by l.core.phase l.log.moves l.core

-- what it still owes, or how it stopped
abbrev pub held_in : Bool → Merging → Obligation
held_in false l = serves (owed_by_log l)
held_in true l = stopped (next_move l.log.left) l.log.moves

-- the same by the mark in its log
abbrev pub held : Merging → Obligation
held l = held_in l.log.stuck l

-- of the input that the next move names nothing waits, and it has ended
abbrev pub LostAt : Next → List Inflow → Type 0
LostAt (Move m) ws = slice_get ws m ≡ Some (record { list = []; end = ended })
LostAt _ ws = ⊥

-- the call found that the next move cannot be made: it did nothing but take what came
pub record StopsWith (call : Call) (h : MergeHeld) (out : List Item) (next : Next) (now : List ℕ) : Type 0 where
  pub left : List Inflow
  pub turn : MergeTurnAt call h out (waits now left)
  pub lost : LostAt next left

-- what a handler owes by its call
abbrev pub OwesAt : Call → Obligation → List Item → Obligation → Type 0
OwesAt call (serves h) out (serves k) = MergeTurnAt call h out k
OwesAt call (serves h) out (stopped next now) = StopsWith call h out next now
OwesAt call (stopped next moves) out (stopped n now) = (out ≡ []) × ((n ≡ next) × (now ≡ moves))
OwesAt call (stopped next moves) out (serves k) = ⊥

-- one that stopped gave by its moves what came but what waits; the input that it is to give of next is among those that wait with nothing
pub record StoppedAt (next : Next) (moves : List ℕ) (ins : List Inflow) (g : List Tree) (e : End) : Type 0 where
  pub unended_is : e ≡ unended
  pub left : List Inflow
  pub merged : Merged moves ins g left
  pub lost : LostAt next left

-- THE CAUSE of a misfit, over what came: the input that the next move names has ended, and all its elements were given
abbrev pub CannotGo : Next → List ℕ → List Inflow → Type 0
CannotGo (Move m) moves ins = (f : Inflow) × ((slice_get ins m ≡ Some f) × ((f.end ≡ ended) × (length f.list ≡ count_of m moves)))
CannotGo _ moves ins = ⊥

-- what holds of its histories
abbrev pub Keeps : Obligation → List Inflow → List Tree → End → Type 0
Keeps (serves h) ins g e = MergeKeeps h ins g e
Keeps (stopped next moves) ins g e = StoppedAt next moves ins g e

-- the same by the flag whether it gathers: then an input that failed has ended
abbrev pub KeepsAs : Bool → Obligation → List Inflow → List Tree → End → Type 0
KeepsAs gathers o ins g e = Keeps o (softened_by gathers ins) g e

-- What a handler owes to the law, by the call as the stage takes it. It gathers or not as before, no action cancels what an earlier one
-- asked, the log only grows, and what it follows stays.
pub record Turned (call : Call) (old : Merging) (acts : List Act) (new : Merging) : Type 0 where
  pub turn : OwesAt call (held old) (given_on 0 acts) (held new)
  pub way : new.gathers ≡ old.gathers
  pub inputs : length new.core.over ≡ length old.core.over
  pub stands : PullsStand acts
  pub started : new.core.phase ≢ New
  pub more : List ℕ
  pub grows : new.log.moves ≡ old.log.moves ++ more
  pub plan : planned new.log ≡ planned old.log
  pub still : new.log.stuck ≡ true → acts ≡ []

-- as it is before anything came
pub record Begins (inputs : ℕ) (gathers : Bool) (l : Merging) : Type 0 where
  pub moves : l.log.moves ≡ []
  pub way : l.gathers ≡ gathers
  pub calm : l.log.stuck ≡ false
  pub named : NamesInputs inputs l.log.left
  pub core : l.core ≡ record { phase = New; over = replicate inputs false; queue = []; room = inputs; asked = false; left = inputs }

-- what a handler makes of the stage, and its actions
pub record Does (new : Merging) (acts : List Act) (to : Merging) (list : List Act) : Type 0 where
  pub to_is : new ≡ to
  pub acts_are : acts ≡ list

-- it ends where every input has ended, nothing waits and no move is to be made
pub data EndsIfDone (before : List Act) (old new : Merging) (acts : List Act) : Type 0 where
  done : old.core.left ≡ 0 → old.core.queue ≡ [] → may_end (next_move old.log.left) ≡ true → new ≡ record old { core = record old.core { phase = Closed } }
      → acts ≡ before ++ Complete 0 ∷ [] → EndsIfDone before old new acts
  opens : 1 ≤ old.core.left → new ≡ old → acts ≡ before → EndsIfDone before old new acts
  more : old.core.queue ≢ [] → new ≡ old → acts ≡ before → EndsIfDone before old new acts
  awaits : may_end (next_move old.log.left) ≡ false → new ≡ old → acts ≡ before → EndsIfDone before old new acts

-- the input of an element that went out
pub data Again (i : ℕ) (before : List Act) (old new : Merging) (acts : List Act) : Type 0 where
  over : slice_get old.core.over i ≡ Some true → EndsIfDone before old new acts → Again i before old new acts
  still : slice_get old.core.over i ≡ Some false → new ≡ old → acts ≡ before ++ Pull i ∷ [] → Again i before old new acts

-- an element of input i went out
abbrev pub HandedOn : ℕ → Tree → Merging → Merging → List Act → Type 0
HandedOn i e old new acts = Again i (Push 0 e ∷ []) (record old { log = logged i old.log }) new acts

-- the stage that found that it cannot go on
abbrev pub stuck_now : Merging → Merging
stuck_now l = record l { log = record l.log { stuck = true } }

-- the output is asked: what is chosen goes out, or nothing does, or what is to be given next will never come
pub data AskServed (old new : Merging) (acts : List Act) : Type 0 where
  gives : (x : Queued) (q : List Queued) → goes_next (next_move old.log.left) old.core.queue ≡ Some (x, q)
      → HandedOn x.port x.item (record old { core = record old.core { queue = q; asked = false } }) new acts → AskServed old new acts
  keeps : goes_next (next_move old.log.left) old.core.queue ≡ None → lost (next_move old.log.left) old.core.over ≡ false → new ≡ old → acts ≡ []
      → AskServed old new acts
  halts : goes_next (next_move old.log.left) old.core.queue ≡ None → lost (next_move old.log.left) old.core.over ≡ true → new ≡ stuck_now old → acts ≡ []
      → AskServed old new acts

-- with the output asked
abbrev pub wanted : Merging → Merging
wanted l = record l { core = record l.core { asked = true } }

-- with one more that waits
abbrev pub stored : ℕ → Tree → Merging → Merging
stored i e l = record l { core = record l.core { queue = l.core.queue ++ record { port = i; item = e } ∷ [] } }

-- an element came: it goes out at once where the output is asked and it is the one that is to go out next, and else it waits
pub data Took (i : ℕ) (e : Tree) (old new : Merging) (acts : List Act) : Type 0 where
  passed : old.core.asked ≡ true → passes_at_once (next_move old.log.left) i ≡ true
      → HandedOn i e (record old { core = record old.core { asked = false } }) new acts
      → Took i e old new acts
  early : old.core.asked ≡ true → passes_at_once (next_move old.log.left) i ≡ false → new ≡ stored i e old → acts ≡ [] → Took i e old new acts
  waited : old.core.asked ≡ false → new ≡ stored i e old → acts ≡ [] → Took i e old new acts

-- without input i
abbrev pub without : ℕ → Merging → Merging
without i l = record l { core = record l.core { over = slice_set l.core.over i true; left = l.core.left - 1 } }

-- input i has ended
pub data Ended (i : ℕ) (old new : Merging) (acts : List Act) : Type 0 where
  ends : (old.core.asked ≡ true → lost (next_move old.log.left) (slice_set old.core.over i true) ≡ false) → EndsIfDone [] (without i old) new acts
      → Ended i old new acts
  lacks : old.core.asked ≡ true → lost (next_move old.log.left) (slice_set old.core.over i true) ≡ true → new ≡ stuck_now (without i old) → acts ≡ []
      → Ended i old new acts

-- input i failed with c: one that gathers goes on without it, and else the output fails and the other inputs are cancelled
pub data InputLost (i : ℕ) (c : Cause) (old new : Merging) (acts : List Act) : Type 0 where
  taken_off : old.gathers ≡ true → Ended i old new acts → InputLost i c old new acts
  gives_up : old.gathers ≡ false
      → Does new acts (record old { core = record old.core { over = slice_set old.core.over i true; phase = Closed } })
      (FailOut 0 c ∷ open_cancels 0 (slice_set old.core.over i true))
      → InputLost i c old new acts

-- ---- the order

-- what is chosen goes out, and is noted: what came first, or where moves are followed the first of the input that the next move names
abbrev pub ChosenOut : Merging → Merging → Type 0
ChosenOut old new = (x : Queued) (q : List Queued) → old.log.stuck ≡ false → goes_next (next_move old.log.left) old.core.queue ≡ Some (x, q)
    → (new.core.queue ≡ q) × (new.log.moves ≡ old.log.moves ++ x.port ∷ [])

-- an element of input i that finds the output unasked, or that is not the one to go out next, waits behind the others
abbrev pub LastIn : ℕ → Tree → Merging → Merging → Type 0
LastIn i e old new = old.log.stuck ≡ false → (old.core.asked ≡ false) ⊎ (passes_at_once (next_move old.log.left) i ≡ false)
    → new.core.queue ≡ old.core.queue ++ record { port = i; item = e } ∷ []

-- ---- over its histories

-- it may be started, it made no move, and its port state holds
pub record MergeFresh (l : Merging) (v : View) : Type 0 where
  pub fresh : l.core.phase ≡ New
  pub unmoved : l.log.moves ≡ []
  pub calm : l.log.stuck ≡ false
  pub ports : port_state l v

-- it was started, and its port state holds
pub record MergePortState (l : Merging) (v : View) : Type 0 where
  pub started : l.core.phase ≢ New
  pub ports : port_state l v

-- The law of its histories, by the stage as it was at first and as it is now: by its moves, of which it made none before, and by whether
-- it gathers, which stays. What it follows is what it was handed in with.
pub record MergesAs (first now : Merging) (v : View) (took gave : List (List Item)) : Type 0 where
  pub unmoved : first.log.moves ≡ []
  pub way : now.gathers ≡ first.gathers
  pub plan : planned now.log ≡ planned first.log
  pub by : InPortsLaw (KeepsAs first.gathers (held now)) v took gave
