-- The state of a balance, its port state, and what its handlers owe.
use Rattle.std.specs.Prelude.{◌≡◌, ◌≢◌, ℕ, ◌-◌, ◌==◌, ◌≤◌, ◌<◌, replicate, if◌then◌else◌, not, filter, Bool, true, false, List, [], ◌∷◌, ◌++◌, length, map, slice_get, slice_set, slice_index_or, Option, None, Some, ⊤}
use Rattle.std.specs.Option.{option_to_list}
use Rattle.elem_core.specs.Tree.{Tree}
use Rattle.elem_core.specs.declared.item.Item.{Item}
use Rattle.port_core.specs.Picks.{Picks, planned, next_move, may_end, logged}
use Rattle.port_core.specs.declared.pick_log.Next.{Next}
use Rattle.port_core.specs.declared.pick_log.Next.TheVariants.{Free, Move, UsedUp}
use Rattle.port_core.specs.declared.act.Act.{Act}
use Rattle.port_core.specs.declared.act.Act.TheVariants.{Pull, Push, Complete, Cancel}
use Rattle.port_core.specs.declared.view.InView.{InView}
use Rattle.port_core.specs.declared.view.InView.TheVariants.{Idle, Pulled, Finished}
use Rattle.port_core.specs.View.{View, out_at, output_closed}
use Rattle.port_core.specs.Asking.{PullsStand}
use Rattle.port_core.specs.Call.{Call, given_on}
use Rattle.stream_model.specs.FanIn.{Inflow}
use Rattle.stream_model.specs.Picks.{all_below}
use Rattle.stream_model.specs.declared.kind.TheConstants.{MAX_FAN}
use Rattle.stage_core.specs.Handling.{PullsAs}
use Rattle.stage_core.specs.Seats.{end_by}
use Rattle.stage_core.specs.declared.outs.OutputState.{OutputState}
use Rattle.stage_core.specs.declared.outs.OutputState.TheVariants.{Quiet, Asks, Gone}
use Rattle.stage_core.specs.OpenOuts.{want_view, open_count, asks_count, at_open, AllClosed}
use Rattle.stage_out.specs.Outs.{SomeAsked}
use Rattle.stage_out.specs.Balances.{BalanceHeld, waits, shut, BalanceTurnAt, BalanceLaw}
use Rattle.stage_out.specs.declared.balancing.Choice.{Choice}
use Rattle.stage_out.specs.declared.balancing.Choice.TheVariants.{Sends, Drops, Stays}

-- whether its ports are open; its outputs; those that ask, in the order in which they asked, and the room for them; how many
-- outputs are open; an element that waits; whether the input has ended, and whether it is asked
pub record Core : Type 0 where
  pub live : Bool
  pub outs : List OutputState
  pub queue : List ℕ
  pub room : ℕ
  pub open_outs : ℕ
  pub waiting : Option Tree
  pub over : Bool
  pub pulled : Bool

-- the same with its log
pub record Balancing : Type 0 where
  pub log : Picks
  pub core : Core

-- ---- what is chosen

-- what becomes of an element whose move names output j: it goes there where that output asks, and is dropped where it is gone
abbrev pub choice_at : ℕ → OutputState → Choice
choice_at j Quiet = Stays
choice_at j Asks = Sends j
choice_at j Gone = Drops j

-- what becomes of an element: it goes to the output that asked first, or where moves are followed to the one that the next move names
abbrev pub choice_of : Next → List OutputState → List ℕ → Choice
choice_of Free outs [] = Stays
choice_of Free outs (j ∷ q) = Sends j
choice_of (Move m) outs q = choice_at m (slice_index_or outs m Gone)
choice_of UsedUp outs q = Stays

-- the queue without output j
abbrev pub others : ℕ → List ℕ → List ℕ
others j q = filter (λ p. not (p == j)) q

-- those behind the first
abbrev pub behind_first : List ℕ → List ℕ
behind_first [] = []
behind_first (j ∷ q) = q

-- the queue once output j left it: it was the first, or where moves are followed stood anywhere
abbrev pub queue_after : Next → ℕ → List ℕ → List ℕ
queue_after Free j q = behind_first q
queue_after (Move m) j q = others j q
queue_after UsedUp j q = q

-- the queue once that was chosen
abbrev pub queue_then : Choice → Next → List ℕ → List ℕ
queue_then (Sends j) next q = queue_after next j q
queue_then (Drops j) next q = q
queue_then Stays next q = q

-- this output is gone
abbrev pub is_gone : OutputState → Bool
is_gone Quiet = false
is_gone Asks = false
is_gone Gone = true

-- the next move names an output that is gone
abbrev pub drops_next : Next → List OutputState → Bool
drops_next Free outs = false
drops_next (Move m) outs = is_gone (slice_index_or outs m Gone)
drops_next UsedUp outs = false

-- the input is to be asked where nothing waits: some output asks, or the next element is to be dropped
abbrev pub asks_input : Next → List OutputState → List ℕ → Bool
asks_input next outs [] = drops_next next outs
asks_input next outs (j ∷ q) = true

-- each move that is followed names an output
abbrev pub NamesOutputs : ℕ → Option (List ℕ) → Type 0
NamesOutputs n None = ⊤
NamesOutputs n (Some moves) = all_below n moves ≡ true

-- an output may lack elements where moves are followed and it is gone
abbrev pub lacks : Option (List ℕ) → List OutputState → ℕ → Bool
lacks None outs j = false
lacks (Some moves) outs j = is_gone (slice_index_or outs j Gone)

-- ---- where it stands

-- what is known of the input
abbrev pub input_of : Bool → Bool → InView
input_of true pulled = Finished
input_of false true = Pulled
input_of false false = Idle

-- what it knows of its ports
abbrev pub view_of : Core → View
view_of l = record { ins = input_of l.over l.pulled ∷ []; outs = map want_view l.outs }

-- the queue holds each output that asks once, and no other: each asks until those before it were served, and then none does
abbrev pub Queued : List OutputState → List ℕ → Type 0
Queued outs [] = asks_count outs ≡ 0
Queued outs (j ∷ q) = (slice_get outs j ≡ Some Asks) × Queued (slice_set outs j Quiet) q

-- an element waits only where it is not chosen what becomes of it, and then the input is not asked; where nothing waits and the input is to
-- be asked, it is
abbrev pub Holding : Option Tree → Next → Core → Type 0
Holding None next l = (l.over ≡ false) × (asks_input next l.outs l.queue ≡ true → l.pulled ≡ true)
Holding (Some t) next l = (choice_of next l.outs l.queue ≡ Stays) × (l.pulled ≡ false)

-- one that is open and can go on, by the moves that are left
pub record Sound (plan : Option (List ℕ)) (l : Core) : Type 0 where
  pub queued : Queued l.outs l.queue
  pub holds : Holding l.waiting (next_move plan) l
  pub count : l.open_outs ≡ open_count l.outs
  pub some : 1 ≤ l.open_outs
  pub few : length l.outs ≤ MAX_FAN
  pub roomy : length l.outs ≤ l.room
  pub named : NamesOutputs (length l.outs) plan

-- one that cannot make its next move does nothing more: its input has ended and nothing waits, and it is to make a move
pub record CannotMove (l : Balancing) : Type 0 where
  pub live_is : l.core.live ≡ true
  pub over_is : l.core.over ≡ true
  pub none : l.core.waiting ≡ None
  pub moves_on : may_end (next_move l.log.left) ≡ false

-- what it knows of its ports then: the outputs that are gone are closed, and others may be by now
pub record HaltedPorts (l : Balancing) (v : View) : Type 0 where
  pub halted : CannotMove l
  pub input : v.ins ≡ Finished ∷ []
  pub outputs : length v.outs ≡ length l.core.outs
  pub gone : (j : ℕ) → is_gone (slice_index_or l.core.outs j Gone) ≡ true → output_closed (out_at v j) ≡ true
  pub few : length l.core.outs ≤ MAX_FAN

-- its port state, by whether its ports are open and whether it stopped
abbrev pub port_state_by : Bool → Bool → Balancing → View → Type 0
port_state_by false stuck l v = AllClosed v
port_state_by true false l v = (v ≡ view_of l.core) × Sound l.log.left l.core
port_state_by true true l v = HaltedPorts l v

-- its port state
abbrev pub port_state : Balancing → View → Type 0
port_state l v = port_state_by l.core.live l.log.stuck l v

-- what waits of its input, and how that stands, in the words of the model
abbrev pub waited : Core → Inflow
waited l = record { list = option_to_list l.waiting; end = end_by l.over }

-- what it still owes, by its moves and the outputs that may lack elements
abbrev pub held_by : Bool → List ℕ → (ℕ → Bool) → Core → BalanceHeld
held_by true moves lack l = waits moves lack (waited l)
held_by false moves lack l = shut moves lack

-- what it still owes, by its log
abbrev pub held : Balancing → BalanceHeld
held l = held_by l.core.live l.log.moves (lacks l.log.left l.core.outs) l.core

-- What a handler owes to the law. The log only grows, by outputs that are there, and what it follows stays; no action cancels what an
-- earlier one asked; where it is free and the input is asked, some output is; and it stops only where it cannot make its next move.
pub record Turned (call : Call) (old : Balancing) (acts : List Act) (new : Balancing) : Type 0 where
  pub turn : BalanceTurnAt call (held old) (λ j. given_on j acts) (held new)
  pub outputs : length new.core.outs ≡ length old.core.outs
  pub stands : PullsStand acts
  pub pulls : old.log.left ≡ None → PullsAs call (port_state old) SomeAsked acts
  pub more : List ℕ
  pub grows : new.log.moves ≡ old.log.moves ++ more
  pub named : all_below (length old.core.outs) more ≡ true
  pub plan : planned new.log ≡ planned old.log
  pub halts : new.log.stuck ≡ true → CannotMove new

-- as it is before anything came
pub record Begins (outputs : ℕ) (l : Balancing) : Type 0 where
  pub moves : l.log.moves ≡ []
  pub calm : l.log.stuck ≡ false
  pub named : NamesOutputs outputs l.log.left
  pub core : l.core ≡ record {
    live = true;
    outs = replicate outputs Quiet;
    queue = [];
    room = outputs;
    open_outs = outputs;
    waiting = None;
    over = false;
    pulled = false;
  }

-- ---- what handlers make of it

-- what a handler makes of the stage, and its actions
pub record Does (new : Balancing) (acts : List Act) (to : Balancing) (list : List Act) : Type 0 where
  pub to_is : new ≡ to
  pub acts_are : acts ≡ list

-- all its ports are closed
abbrev pub closed : Balancing → Balancing
closed l = record l { core = record l.core { live = false } }

-- it cannot make its next move
abbrev pub stuck_now : Balancing → Balancing
stuck_now l = record l { log = record l.log { stuck = true } }

-- nothing waits
abbrev pub emptied : Balancing → Balancing
emptied l = record l { core = record l.core { waiting = None } }

-- output j waits for its turn
abbrev pub lined : ℕ → Balancing → Balancing
lined j l = record l { core = record l.core { outs = slice_set l.core.outs j Asks; queue = l.core.queue ++ j ∷ [] } }

-- an element came: the input is not asked now
abbrev pub input_idle : Balancing → Balancing
input_idle l = record l { core = record l.core { pulled = false } }

-- the input has ended
abbrev pub ended_now : Balancing → Balancing
ended_now l = record l { core = record l.core { over = true } }

-- the input is asked
abbrev pub asking : Balancing → Balancing
asking l = record l { core = record l.core { pulled = true } }

-- output j was served, which asks no more
abbrev pub given_out : ℕ → Balancing → Balancing
given_out j l = record l { log = logged j l.log; core = record l.core { outs = slice_set l.core.outs j Quiet } }

-- output j was served, and left the queue
abbrev pub served : ℕ → Balancing → Balancing
served j l = record l {
  log = logged j l.log;
  core = record l.core { outs = slice_set l.core.outs j Quiet; queue = queue_after (next_move l.log.left) j l.core.queue };
}

-- an element for output j was dropped
abbrev pub passed_over : ℕ → Balancing → Balancing
passed_over j l = record l { log = logged j l.log }

-- an element waits
abbrev pub filled : Tree → Balancing → Balancing
filled t l = record l { core = record l.core { waiting = Some t } }

-- without output j
abbrev pub without : ℕ → Balancing → Balancing
without j l = record l { core = record l.core { outs = slice_set l.core.outs j Gone; queue = others j l.core.queue; open_outs = l.core.open_outs - 1 } }

-- what is asked where an element is dealt out: the outputs that ask and those of the moves are there, and where it is free and some output
-- asks there is room for a move
pub record MayDeal (l : Balancing) : Type 0 where
  pub noted : l.log.left ≡ None → l.core.queue ≢ [] → 1 ≤ l.log.room
  pub there : (j : ℕ) (q : List ℕ) → l.core.queue ≡ j ∷ q → j < length l.core.outs
  pub named : NamesOutputs (length l.core.outs) l.log.left
  pub few : length l.core.outs ≤ MAX_FAN

-- the same where one may wait
pub record MayServe (l : Balancing) : Type 0 where
  pub deal : l.core.waiting ≢ None → MayDeal (emptied l)
  pub few : length l.core.outs ≤ MAX_FAN

-- Nothing waits: the input is asked where it is to be, or it stays; behind the end of the input all complete, or where a move is to be made
-- it stops.
pub data Settles (before : List Act) (old new : Balancing) (acts : List Act) : Type 0 where
  asks : old.core.over ≡ false → old.core.pulled ≡ false → asks_input (next_move old.log.left) old.core.outs old.core.queue ≡ true
      → Does new acts (asking old) (before ++ Pull 0 ∷ []) → Settles before old new acts
  rests : old.core.over ≡ false → (asks_input (next_move old.log.left) old.core.outs old.core.queue ≡ true → old.core.pulled ≡ true)
      → Does new acts old before → Settles before old new acts
  completes : old.core.over ≡ true → may_end (next_move old.log.left) ≡ true
      → Does new acts (closed old) (before ++ at_open (λ k. Complete k) 0 old.core.outs) → Settles before old new acts
  halts : old.core.over ≡ true → may_end (next_move old.log.left) ≡ false → Does new acts (stuck_now old) before → Settles before old new acts

-- an element is there, and nothing else waits: it goes out, is dropped, or waits
pub data Deals (t : Tree) (old new : Balancing) (acts : List Act) : Type 0 where
  sends : (j : ℕ) → choice_of (next_move old.log.left) old.core.outs old.core.queue ≡ Sends j → Settles (Push j t ∷ []) (served j old) new acts
      → Deals t old new acts
  drops : (j : ℕ) → choice_of (next_move old.log.left) old.core.outs old.core.queue ≡ Drops j → Settles [] (passed_over j old) new acts → Deals t old new acts
  stays : choice_of (next_move old.log.left) old.core.outs old.core.queue ≡ Stays → Does new acts (filled t old) [] → Deals t old new acts

-- what waits is dealt, or nothing waits
pub data ServesWaiting (old new : Balancing) (acts : List Act) : Type 0 where
  deals : (t : Tree) → old.core.waiting ≡ Some t → Deals t (emptied old) new acts → ServesWaiting old new acts
  settles : old.core.waiting ≡ None → Settles [] old new acts → ServesWaiting old new acts

-- the input has ended: what waits stays, or nothing waits
pub data Ended (old new : Balancing) (acts : List Act) : Type 0 where
  end_waits : old.core.waiting ≢ None → Does new acts (ended_now old) [] → Ended old new acts
  end_passes : old.core.waiting ≡ None → Settles [] (ended_now old) new acts → Ended old new acts

-- output j was cancelled: it was the last, or others are open
pub data Lost (j : ℕ) (old new : Balancing) (acts : List Act) : Type 0 where
  final : old.core.open_outs ≡ 1 → Does new acts (closed (without j old)) (if old.core.over then [] else Cancel 0 ∷ []) → Lost j old new acts
  others_open : old.core.open_outs ≢ 1 → ServesWaiting (without j old) new acts → Lost j old new acts

-- ---- the order

-- an element goes to the output that is chosen for it, which is noted, and the others that ask keep their order
abbrev pub FirstServed : Balancing → Balancing → Type 0
FirstServed old new = (j : ℕ) → old.log.stuck ≡ false → choice_of (next_move old.log.left) old.core.outs old.core.queue ≡ Sends j
    → (new.core.queue ≡ queue_after (next_move old.log.left) j old.core.queue) × (new.log.moves ≡ old.log.moves ++ j ∷ [])

-- an output that asks while nothing waits is served behind those that asked before
abbrev pub LastInLine : ℕ → Balancing → Balancing → Type 0
LastInLine j old new = old.log.stuck ≡ false → old.core.waiting ≡ None → new.core.queue ≡ old.core.queue ++ j ∷ []

-- the others that ask keep their order
abbrev pub OthersStay : ℕ → Balancing → Balancing → Type 0
OthersStay j old new = old.log.stuck ≡ false → new.core.queue ≡ others j old.core.queue

-- ---- over its histories

-- it may be started, it made no move and took nothing
pub record BalanceFresh (l : Balancing) (v : View) : Type 0 where
  pub live : l.core.live ≡ true
  pub unmoved : l.log.moves ≡ []
  pub calm : l.log.stuck ≡ false
  pub empty : l.core.waiting ≡ None
  pub ports : port_state l v

-- the law of its histories, by the stage as it was at first and as it is now: by its moves, of which it made none before and
-- each names an output; its outputs are those that it had at first, and what it follows is what it was handed in with
pub record BalancesAs (first now : Balancing) (v : View) (took gave : List (List Item)) : Type 0 where
  pub unmoved : first.log.moves ≡ []
  pub taken : List Item
  pub took_is : took ≡ taken ∷ []
  pub ports : length gave ≡ length v.outs
  pub outputs : length gave ≡ length first.core.outs
  pub named : all_below (length v.outs) now.log.moves ≡ true
  pub plan : planned now.log ≡ planned first.log
  pub halts : now.log.stuck ≡ true → CannotMove now
  pub law : BalanceLaw (held now) v taken (λ j. slice_index_or gave j [])
