-- The state of a buffer that drops, its port state, and what its handlers owe.
use Rattle.std.specs.Prelude.{◌≡◌, ◌≢◌, ◌<◌, ◌≤◌, ◌+◌, ◌^◌, Bool, true, false, not, ◌&&◌, ℕ, zero, suc, List, [], ◌∷◌, ◌++◌, length, Option, Some, None, is_some, ⊤}
use Rattle.std.specs.Option.{option_to_list}
use Rattle.elem_core.specs.Tree.{Tree}
use Rattle.elem_core.specs.declared.item.Item.{Item}
use Rattle.elem_core.specs.declared.why.Cause.{Cause}
use Rattle.port_core.specs.Picks.{Picks, planned, next_move, may_end, logged}
use Rattle.port_core.specs.declared.pick_log.Next.{Next}
use Rattle.port_core.specs.declared.pick_log.Next.TheVariants.{Free, Move, UsedUp}
use Rattle.port_core.specs.declared.act.Act.{Act}
use Rattle.port_core.specs.declared.act.Act.TheVariants.{Pull, Push, Complete, FailOut, Cancel}
use Rattle.port_core.specs.declared.view.InView.{InView}
use Rattle.port_core.specs.declared.view.InView.TheVariants.{Idle, Pulled, Finished, Cancelled}
use Rattle.port_core.specs.declared.view.OutView.{OutView}
use Rattle.port_core.specs.View.{View, OneOne}
use Rattle.port_core.specs.Asking.{PullsStand}
use Rattle.port_core.specs.Call.{Call, given_on}
use Rattle.stream_model.specs.Outlook.{End, unended, ended, failed}
use Rattle.stream_model.specs.FanIn.{Inflow}
use Rattle.stream_model.specs.Picks.{comes, all_below, nothing_held}
use Rattle.stream_model.specs.declared.kind.Policy.{Policy}
use Rattle.stream_model.specs.declared.kind.Policy.TheVariants.{Backpressure}
use Rattle.stage_core.specs.PortsLaws.{InPortsLaw}
use Rattle.stage_core.specs.Row.{BothClosed}
use Rattle.stage_core.specs.Seats.{wish}
use Rattle.stage_core.specs.declared.phase.Phase.{Phase}
use Rattle.stage_core.specs.declared.phase.Phase.TheVariants.{New, Open, Closed}
use Rattle.stage_dropping.specs.declared.dropping.After.{After}
use Rattle.stage_dropping.specs.declared.dropping.After.TheVariants as behind
use Rattle.stage_dropping.specs.declared.dropping.Over.{Over}
use Rattle.stage_dropping.specs.declared.dropping.Over.TheVariants as ends
use Rattle.stage_dropping.specs.Drops.{DropHeld, holds, shut, Obligation, serves, stopped, OwesAt, Keeps, overflow_of}

-- where it stands, its node, policy and size, how many elements it took in, what it holds, whether its output is asked and its input,
-- what came and waits for its move, how the input stands, and its log
pub record Dropping : Type 0 where
  pub phase : Phase
  pub node : ℕ
  pub policy : Policy
  pub size : ℕ
  pub came : ℕ
  pub held : List Tree
  pub asked : Bool
  pub pulled : Bool
  pub waiting : Option Tree
  pub after : End
  pub log : Picks

-- how its input stands
abbrev pub end_of : After → End
end_of behind.Going = unended
end_of behind.Ended = ended
end_of (behind.Failed c) = failed c

-- ---- what is chosen

-- an element that waits may be taken in
abbrev pub may_take : Next → Bool
may_take Free = true
may_take (Move zero) = true
may_take (Move (suc k)) = false
may_take UsedUp = false

-- one that is held may be given
abbrev pub may_give : Next → Bool
may_give Free = true
may_give (Move zero) = false
may_give (Move (suc k)) = true
may_give UsedUp = false

-- the input has ended
abbrev pub has_ended : End → Bool
has_ended unended = false
has_ended ended = true
has_ended (failed c) = false

-- the next move cannot be made: nothing waits and the input has ended; or it is asked and nothing is held
abbrev pub lost : Next → Option Tree → End → Bool → List Tree → Bool
lost (Move zero) waiting after asked held = not (is_some waiting) && has_ended after
lost (Move (suc k)) waiting after asked held = asked && nothing_held held
lost _ waiting after asked held = false

-- each move that is followed is 0 or 1
abbrev pub NamesMoves : Option (List ℕ) → Type 0
NamesMoves None = ⊤
NamesMoves (Some moves) = all_below 2 moves ≡ true

-- ---- its ports

-- what is known of its input, by how that stands and whether it is asked
abbrev pub in_of : End → Bool → InView
in_of unended true = Pulled
in_of unended false = Idle
in_of ended pulled = Finished
in_of (failed c) pulled = Finished

-- what is known of its ports until it closes them
pub record DropKnows (l : Dropping) (x : InView) (y : OutView) : Type 0 where
  pub input : x ≡ in_of l.after l.pulled
  pub output : y ≡ wish l.asked

-- one that is open, between two of its steps
pub record OpenBuffer (l : Dropping) : Type 0 where
  pub phase_is : l.phase ≡ Open
  pub calm : l.log.stuck ≡ false
  pub drops : l.policy ≢ Backpressure
  pub some : 0 < l.size
  pub few : length l.held ≤ l.size
  pub fits : is_some l.waiting ≡ true → l.came + 1 < 2 ^ 64
  pub named : NamesMoves l.log.left
  pub quiet : is_some l.waiting ≡ true → l.pulled ≡ false

-- Between two calls it has done what it may: it asks where nothing waits; takes in what it may; gives what it may; and where its input
-- is over and nothing waits it holds something that it may not give yet, or its moves are not all made.
pub record Rested (l : Dropping) : Type 0 where
  pub whole : OpenBuffer l
  pub asks : l.after ≡ unended → l.waiting ≡ None → l.pulled ≡ true
  pub takes : may_take (next_move l.log.left) ≡ true → l.waiting ≡ None
  pub gives : l.asked ≡ true → may_give (next_move l.log.left) ≡ true → l.held ≡ []
  pub goes : lost (next_move l.log.left) l.waiting l.after l.asked l.held ≡ false
  pub ends : l.waiting ≡ None → l.after ≢ unended → (l.after ≡ ended) × ((l.held ≡ [] → may_end (next_move l.log.left) ≡ false))

-- one that is new
pub record Fresh (l : Dropping) : Type 0 where
  pub phase_is : l.phase ≡ New
  pub calm : l.log.stuck ≡ false
  pub unmoved : l.log.moves ≡ []
  pub drops : l.policy ≢ Backpressure
  pub some : 0 < l.size
  pub none_came : l.came ≡ 0
  pub empty : l.held ≡ []
  pub unasked : l.asked ≡ false
  pub unpulled : l.pulled ≡ false
  pub none : l.waiting ≡ None
  pub going : l.after ≡ unended
  pub named : NamesMoves l.log.left

-- its two ports where it can go on, by where it stands
abbrev pub drop_at : Dropping → Phase → InView → OutView → Type 0
drop_at l New x y = DropKnows l x y × Fresh l
drop_at l Open x y = DropKnows l x y × Rested l
drop_at l Closed x y = BothClosed x y

-- One that cannot make its next move does nothing more; its input was not cancelled.
pub record Halted (l : Dropping) (x : InView) (y : OutView) : Type 0 where
  pub phase_is : l.phase ≡ Open
  pub uncancelled : x ≢ Cancelled

-- its two ports, by whether it stopped
abbrev pub drop_in : Bool → Dropping → InView → OutView → Type 0
drop_in false l x y = drop_at l l.phase x y
drop_in true l x y = Halted l x y

-- its port state
abbrev pub port_state : Dropping → View → Type 0
port_state l v = OneOne (drop_in l.log.stuck l) v

-- ---- the law

-- what waits, and how the input stands behind it
abbrev pub pending : Dropping → Inflow
pending l = record { list = option_to_list l.waiting; end = l.after }

-- what it still owes, by where it stands
abbrev pub held_by : Phase → Dropping → DropHeld
held_by New l = holds l.came l.log.moves l.held (pending l)
held_by Open l = holds l.came l.log.moves l.held (pending l)
held_by Closed l = shut l.log.moves

-- what it still owes, or how it stopped
abbrev pub held_in : Bool → Dropping → Obligation
held_in false l = serves (held_by l.phase l)
held_in true l = stopped (next_move l.log.left) l.log.moves

-- the same by the mark in its log
abbrev pub held_of : Dropping → Obligation
held_of l = held_in l.log.stuck l

-- What a call owes: a step of its buffer. Its node, policy and size stay, and what it follows; no action cancels an input that an earlier
-- one asked; it was started; and its log only grows.
pub record Turned (call : Call) (old : Dropping) (acts : List Act) (new : Dropping) : Type 0 where
  pub turn : OwesAt old.node old.policy old.size call (held_of old) (given_on 0 acts) (held_of new)
  pub node : new.node ≡ old.node
  pub policy : new.policy ≡ old.policy
  pub size : new.size ≡ old.size
  pub stands : PullsStand acts
  pub started : new.phase ≢ New
  pub more : List ℕ
  pub grows : new.log.moves ≡ old.log.moves ++ more
  pub plan : planned new.log ≡ planned old.log
  pub still : old.log.stuck ≡ true → acts ≡ []

-- ---- its steps

-- One that an element comes to: it is open, nothing waits, what it may give is given, and one element more may be counted.
pub record MayEnter (l : Dropping) : Type 0 where
  pub phase_is : l.phase ≡ Open
  pub none : l.waiting ≡ None
  pub gives : l.asked ≡ true → may_give (next_move l.log.left) ≡ true → l.held ≡ []
  pub drops : l.policy ≢ Backpressure
  pub some : 0 < l.size
  pub few : length l.held ≤ l.size
  pub fits : l.came + 1 < 2 ^ 64
  pub named : NamesMoves l.log.left

-- with what waits taken in, and these held
abbrev pub took : List Tree → Dropping → Dropping
took items l = record l { waiting = None; held = items; came = l.came + 1; log = logged 0 l.log }

-- with what waits taken in where there is no room, which closes it
abbrev pub overflown : Dropping → Dropping
overflown l = record l { phase = Closed; waiting = None; came = l.came + 1; log = logged 0 l.log }

-- with the first that it held given
abbrev pub gave_one : List Tree → Dropping → Dropping
gave_one items l = record l { held = items; asked = false; log = logged 1 l.log }

-- a cancel of the input, where that goes on
abbrev pub cancel_by : End → List Act
cancel_by unended = Cancel 0 ∷ []
cancel_by ended = []
cancel_by (failed c) = []

-- an element that waits is taken in where that may be, and may find no room; or nothing is done
pub data TakesIn (old new : Dropping) (before acts : List Act) : Type 0 where
  takes : (t : Tree) (items : List Tree) → old.phase ≡ Open → old.waiting ≡ Some t → may_take (next_move old.log.left) ≡ true
      → comes old.policy old.size old.held t ≡ Some items → length items ≤ old.size → new ≡ took items old → acts ≡ before → TakesIn old new before acts
  overflows : (t : Tree) → old.phase ≡ Open → old.waiting ≡ Some t → may_take (next_move old.log.left) ≡ true → comes old.policy old.size old.held t ≡ None
      → new ≡ overflown old
      → acts ≡ before ++ FailOut 0 (overflow_of old.node (old.came + 1)) ∷ cancel_by old.after → TakesIn old new before acts
  leaves : (old.phase ≡ Open → may_take (next_move old.log.left) ≡ true → old.waiting ≡ None) → new ≡ old → acts ≡ before → TakesIn old new before acts

-- the first that is held is given, where that may be and it is asked; or nothing is done
pub data Giving (old new : Dropping) (before acts : List Act) : Type 0 where
  gives : (t : Tree) (items : List Tree) → old.phase ≡ Open → old.asked ≡ true → may_give (next_move old.log.left) ≡ true → old.held ≡ t ∷ items
      → new ≡ gave_one items old → acts ≡ before ++ Push 0 t ∷ [] → Giving old new before acts
  keeps : (old.phase ≡ Open → old.asked ≡ true → may_give (next_move old.log.left) ≡ true → old.held ≡ []) → new ≡ old → acts ≡ before
      → Giving old new before acts

-- what waits is taken in first, and then one is given; or one is given first, where nothing may be taken in before
pub data Serving (old new : Dropping) (acts : List Act) : Type 0 where
  take_first : (mid : Dropping) (between : List Act) → TakesIn old mid [] between → Giving mid new between acts → (mid.phase ≡ Open → mid.waiting ≡ None)
      → Serving old new acts
  give_first : (mid : Dropping) (between : List Act) → (old.phase ≡ Open → may_take (next_move old.log.left) ≡ true → old.waiting ≡ None)
      → Giving old mid [] between → TakesIn mid new between acts → Serving old new acts

-- its input is to be asked: nothing waits, it goes on, and was not asked yet
abbrev pub wants_input : Option Tree → End → Bool → Bool
wants_input None unended pulled = not pulled
wants_input _ _ pulled = false

-- with its input asked, where it is to be
abbrev pub pulled_on : Bool → Dropping → Dropping
pulled_on true l = record l { pulled = true }
pulled_on false l = l

-- the action of that
abbrev pub asks_by : Bool → List Act
asks_by true = Pull 0 ∷ []
asks_by false = []

-- the stage that found that it cannot go on
abbrev pub stuck_now : Dropping → Dropping
stuck_now l = record l { log = record l.log { stuck = true } }

-- the end of a call: what is over closes the output; else the input is asked, and where the next move cannot be made it stops
pub data Settling (old new : Dropping) (before acts : List Act) : Type 0 where
  closed : (old.phase ≡ Open → ⊥) → new ≡ old → acts ≡ before → Settling old new before acts
  fails : (c : Cause) → old.phase ≡ Open → old.waiting ≡ None → old.after ≡ failed c → new ≡ record old { phase = Closed }
      → acts ≡ before ++ FailOut 0 c ∷ [] → Settling old new before acts
  completes : old.phase ≡ Open → old.waiting ≡ None → old.after ≡ ended → old.held ≡ [] → may_end (next_move old.log.left) ≡ true
      → new ≡ record old { phase = Closed } → acts ≡ before ++ Complete 0 ∷ [] → Settling old new before acts
  stops : (b : Bool) → old.phase ≡ Open → b ≡ wants_input old.waiting old.after old.pulled
      → lost (next_move old.log.left) old.waiting old.after old.asked old.held ≡ true
      → new ≡ stuck_now (pulled_on b old) → acts ≡ before ++ asks_by b → Settling old new before acts
  rests : (b : Bool) → old.phase ≡ Open → b ≡ wants_input old.waiting old.after old.pulled
      → lost (next_move old.log.left) old.waiting old.after old.asked old.held ≡ false
      → (old.waiting ≡ None → old.after ≢ unended → (old.after ≡ ended) × (old.held ≡ [] → may_end (next_move old.log.left) ≡ false))
      → new ≡ pulled_on b old → acts ≡ before ++ asks_by b → Settling old new before acts

-- a call's elements, and then its end
pub record Answered (old new : Dropping) (acts : List Act) : Type 0 where
  pub mid : Dropping
  pub between : List Act
  pub serves : Serving old mid between
  pub settles : Settling mid new between acts

-- whether an element was held, or overflowed
abbrev pub Took : Bool → Dropping → Tree → Dropping → Type 0
Took true old t new = (comes old.policy old.size old.held t ≡ Some new.held) × ((new ≡ record old { held = new.held }) × (length new.held ≤ old.size))
Took false old t new = (comes old.policy old.size old.held t ≡ None) × (new ≡ old)

-- an element was taken in or found no room, and that was noted
pub data DropNoted (t : Tree) (old new : Dropping) (before acts : List Act) : Type 0 where
  fit : (items : List Tree) → comes old.policy old.size old.held t ≡ Some items → length items ≤ old.size
      → new ≡ record old { held = items; came = old.came + 1; log = logged 0 old.log } → acts ≡ before → DropNoted t old new before acts
  unfit : comes old.policy old.size old.held t ≡ None → new ≡ record old { phase = Closed; came = old.came + 1; log = logged 0 old.log }
      → acts ≡ before ++ FailOut 0 (overflow_of old.node (old.came + 1)) ∷ cancel_by old.after → DropNoted t old new before acts

-- how its output is to be closed
abbrev pub IsOver : Dropping → Over → Type 0
IsOver l ends.Ends = (l.waiting ≡ None) × ((l.after ≡ ended) × ((l.held ≡ []) × (may_end (next_move l.log.left) ≡ true)))
IsOver l (ends.Fails c) = (l.waiting ≡ None) × (l.after ≡ failed c)
IsOver l ends.GoesOn = l.waiting ≡ None → l.after ≢ unended → (l.after ≡ ended) × (l.held ≡ [] → may_end (next_move l.log.left) ≡ false)

-- ---- over its histories

-- it may be started, nothing came to it, it made no move, and its port state holds
pub record DropFresh (l : Dropping) (v : View) : Type 0 where
  pub fresh : l.phase ≡ New
  pub ports : port_state l v

-- it was started, and its port state holds
pub record DropPortState (l : Dropping) (v : View) : Type 0 where
  pub started : l.phase ≢ New
  pub ports : port_state l v

-- The law of its histories, by the stage as it was at first and as it is now: by its moves, of which it made none before. What it follows
-- is what it was handed in with.
pub record DropsAs (first now : Dropping) (v : View) (took gave : List (List Item)) : Type 0 where
  pub unmoved : first.log.moves ≡ []
  pub node : now.node ≡ first.node
  pub policy : now.policy ≡ first.policy
  pub size : now.size ≡ first.size
  pub plan : planned now.log ≡ planned first.log
  pub by : InPortsLaw (Keeps first.node first.policy first.size (held_of now)) v took gave

-- a new buffer of n elements at a node, by its policy; it made no move, and may follow some
pub record Begins (node n : ℕ) (p : Policy) (l : Dropping) : Type 0 where
  pub is : l ≡ record l { phase = New; node = node; policy = p; size = n; came = 0; held = []; asked = false; pulled = false; waiting = None; after = unended }
  pub unmoved : l.log.moves ≡ []
  pub calm : l.log.stuck ≡ false
  pub named : NamesMoves l.log.left
