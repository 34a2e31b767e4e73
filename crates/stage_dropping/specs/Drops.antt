-- The law of a buffer that does not hold its input back: its moves say, in order, which elements it took in and which it gave. What
-- came and was not taken in yet waits, and what comes behind it.
use Rattle.std.specs.Prelude.{◌⊎◌, ◌≡◌, ◌+◌, ◌≤◌, Bool, true, false, ℕ, zero, suc, List, [], ◌∷◌, ◌++◌, length, None, ⊤}
use Rattle.elem_core.specs.Tree.{Tree}
use Rattle.elem_core.specs.declared.item.Item.{Item}
use Rattle.elem_core.specs.declared.why.Why.TheVariants.{BufferOverflow}
use Rattle.elem_core.specs.declared.why.Cause.{Cause}
use Rattle.stream_model.specs.declared.kind.Policy.{Policy}
use Rattle.stream_model.specs.Outlook.{Outlook, End, unended, ended, failed}
use Rattle.stream_model.specs.FanIn.{Inflow}
use Rattle.stream_model.specs.Picks.{Buffered, buffered, comes, empty_buffer, nothing_held, BufferStands, count_of}
use Rattle.port_core.specs.declared.pick_log.Next.{Next}
use Rattle.port_core.specs.declared.pick_log.Next.TheVariants.{Free, Move, UsedUp}
use Rattle.port_core.specs.declared.view.InView.{InView}
use Rattle.port_core.specs.declared.view.OutView.{OutView}
use Rattle.port_core.specs.View.{View, in_at, out_at}
use Rattle.port_core.specs.Call.{Call, cancels}
use Rattle.stream_model.specs.View.{SeenWire}
use Rattle.stream_model.specs.Rests.{IsShut, Waits, IsUnasked, DroppingRests}
use Rattle.stage_core.specs.OwnPorts.{own_input, own_output}
use Rattle.stage_core.specs.Held.{told}
use Rattle.stage_core.specs.Inflows.{coming, joined, PortsLaw}

-- a buffer that gave and holds these, once it took in so many
abbrev pub buffer_at : List Tree → List Tree → ℕ → Buffered
buffer_at g held came = record { gave = g; held = held; came = came; overflowed = false; ok = true }

-- the same with an overflow
abbrev pub overflow_at : List Tree → List Tree → ℕ → Buffered
overflow_at g held came = record { gave = g; held = held; came = came; overflowed = true; ok = true }

-- why it fails where element number n finds no room
abbrev pub overflow_of : ℕ → ℕ → Cause
overflow_of node n = record { stage = node; nth = n; why = BufferOverflow }

-- these moves, whatever it gave before, take in the list, give this, and leave those held
abbrev pub DropMoves : Policy → ℕ → ℕ → List Tree → List ℕ → List Tree → List Tree → ℕ → List Tree → Type 0
DropMoves p n came held more l given then items = (g : List Tree) → buffered p n more l (buffer_at g held came) ≡ buffer_at (g ++ given) items then

-- between two calls: how many elements it took in, its moves, what it holds, and what waits with how the input stands; or its output
-- is closed, and these are its moves
pub data DropHeld : Type 0 where
  holds : ℕ → List ℕ → List Tree → Inflow → DropHeld
  shut : List ℕ → DropHeld

-- further moves take in a first part of what waits, and give this
pub record BufferStep (p : Policy) (n came : ℕ) (moves : List ℕ) (held : List Tree) (w : Inflow) (given : List Tree) (then : ℕ) (now : List ℕ)
    (items : List Tree) (us : Inflow) : Type 0 where
  pub more : List ℕ
  pub taken : List Tree
  pub parts : w.list ≡ taken ++ us.list
  pub same : us.end ≡ w.end
  pub now_is : now ≡ moves ++ more
  pub then_is : then ≡ came + length taken
  pub moved : DropMoves p n came held more taken given then items

-- How it closes its output, with nothing left that waits: its input has ended and nothing is held; or its input failed, and what is
-- held is dropped. Or an element finds no room where that is a failure.
pub data DropClose (node : ℕ) (p : Policy) (n came : ℕ) (moves : List ℕ) (held : List Tree) (w : Inflow) (out : List Item) (now : List ℕ) : Type 0 where
  completes : (given : List Tree) (then : ℕ) (us : Inflow) → BufferStep p n came moves held w given then now [] us → us.list ≡ [] → w.end ≡ ended
      → out ≡ told given ended → DropClose node p n came moves held w out now
  fails : (given : List Tree) (then : ℕ) (items : List Tree) (us : Inflow) (x : Cause) → BufferStep p n came moves held w given then now items us
      → us.list ≡ [] → w.end ≡ failed x → out ≡ told given (failed x) → DropClose node p n came moves held w out now
  overflows : (given : List Tree) (then : ℕ) (before : List ℕ) (items : List Tree) (us : Inflow) (t : Tree) (rest : List Tree)
      → BufferStep p n came moves held w given then before items us → us.list ≡ t ∷ rest → comes p n items t ≡ None → now ≡ before ++ 0 ∷ []
      → out ≡ told given (failed (overflow_of node (then + 1))) → DropClose node p n came moves held w out now

-- it goes on
pub record Goes (p : Policy) (n came : ℕ) (moves : List ℕ) (held : List Tree) (w : Inflow) (out : List Item) (then : ℕ) (now : List ℕ) (items : List Tree)
    (us : Inflow) : Type 0 where
  pub given : List Tree
  pub step : BufferStep p n came moves held w given then now items us
  pub out_is : out ≡ told given unended

-- what it does where this waits and came
abbrev pub DropStep : ℕ → Policy → ℕ → ℕ → List ℕ → List Tree → Inflow → List Item → DropHeld → Type 0
DropStep node p n came moves held w out (holds then now items us) = Goes p n came moves held w out then now items us
DropStep node p n came moves held w out (shut now) = DropClose node p n came moves held w out now

-- its output was cancelled
abbrev pub DropRefused : List ℕ → List Item → DropHeld → Type 0
DropRefused moves out (holds then now items us) = ⊥
DropRefused moves out (shut now) = (out ≡ []) × (now ≡ moves)

-- what a handler owes by its call; one that has closed its output is not called
abbrev pub DropTurnAt : ℕ → Policy → ℕ → Call → DropHeld → List Item → DropHeld → Type 0
DropTurnAt node p n call (shut moves) out new = ⊥
DropTurnAt node p n (cancels j) (holds came moves held w) out new = DropRefused moves out new
DropTurnAt node p n call (holds came moves held w) out new = DropStep node p n came moves held (joined w (coming call 0)) out new

-- what came is what was taken in and what waits, and by its moves it gave this of the former
pub record DropGiven (p : Policy) (n came : ℕ) (moves : List ℕ) (held : List Tree) (w : Inflow) (f : Inflow) (g : List Tree) : Type 0 where
  pub taken : List Tree
  pub flow_is : f ≡ record { list = taken ++ w.list; end = w.end }
  pub many : came ≡ length taken
  pub buffer_is : buffered p n moves taken empty_buffer ≡ buffer_at g held came

-- one that is open gave and holds by its moves what it took in; one that is closed may have given what it gave
abbrev pub DropKeeps : ℕ → Policy → ℕ → DropHeld → List Inflow → List Tree → End → Type 0
DropKeeps node p n (holds came moves held w) (f ∷ []) g x = (x ≡ unended) × DropGiven p n came moves held w f g
DropKeeps node p n (shut moves) (f ∷ []) g x = BufferStands node p n moves f g x
DropKeeps node p n h fs g x = ⊥

-- ---- one that follows moves

-- the next move cannot be made: nothing waits and the input has ended, or nothing is held
abbrev pub LostAt : Next → List Tree → Inflow → Type 0
LostAt (Move zero) held w = (w.list ≡ []) × (w.end ≡ ended)
LostAt (Move (suc k)) held w = held ≡ []
LostAt _ held w = ⊥

-- what it still owes, or which move it cannot make and those that it made
pub data Obligation : Type 0 where
  serves : DropHeld → Obligation
  stopped : Next → List ℕ → Obligation

-- the call left it where the next move cannot be made
pub record StopsWith (node : ℕ) (p : Policy) (n : ℕ) (call : Call) (h : DropHeld) (out : List Item) (next : Next) (now : List ℕ) : Type 0 where
  pub then : ℕ
  pub items : List Tree
  pub left : Inflow
  pub turn : DropTurnAt node p n call h out (holds then now items left)
  pub lost : LostAt next items left

-- what a handler owes by its call
abbrev pub OwesAt : ℕ → Policy → ℕ → Call → Obligation → List Item → Obligation → Type 0
OwesAt node p n call (serves h) out (serves k) = DropTurnAt node p n call h out k
OwesAt node p n call (serves h) out (stopped next now) = StopsWith node p n call h out next now
OwesAt node p n call (stopped next moves) out (stopped m now) = (out ≡ []) × ((m ≡ next) × (now ≡ moves))
OwesAt node p n call (stopped next moves) out (serves k) = ⊥

-- one that stopped is as it was, and what comes waits
pub record StoppedAt (node : ℕ) (p : Policy) (n : ℕ) (next : Next) (moves : List ℕ) (ins : List Inflow) (g : List Tree) (e : End) : Type 0 where
  pub came : ℕ
  pub items : List Tree
  pub left : Inflow
  pub keeps : DropKeeps node p n (holds came moves items left) ins g e
  pub lost : LostAt next items left

-- what holds of its histories
abbrev pub Keeps : ℕ → Policy → ℕ → Obligation → List Inflow → List Tree → End → Type 0
Keeps node p n (serves h) ins g e = DropKeeps node p n h ins g e
Keeps node p n (stopped next moves) ins g e = StoppedAt node p n next moves ins g e

-- the law of such a buffer over its whole history
abbrev pub DropLaw : ℕ → Policy → ℕ → Obligation → View → (ℕ → List Item) → List Item → Type 0
DropLaw node p n x v took gave = PortsLaw (Keeps node p n x) v took gave

-- its moves
abbrev pub drop_moves : Obligation → List ℕ
drop_moves (serves (holds came moves held w)) = moves
drop_moves (serves (shut moves)) = moves
drop_moves (stopped next moves) = moves

-- what it may have given, of one input
abbrev pub DropStandsOf : ℕ → Policy → ℕ → List ℕ → List Inflow → List Tree → End → Type 0
DropStandsOf node p n moves (f ∷ []) g x = BufferStands node p n moves f g x
DropStandsOf node p n moves fs g x = ⊥

-- Over a whole history: for every further list of moves and every rest, all that the moves give of all that comes is what the
-- further ones give of what waits and the rest, from what it gave and holds.
abbrev pub DropRest : Policy → ℕ → DropHeld → List Inflow → List Tree → Type 0
DropRest p n (shut moves) fs g = ⊤
DropRest p n (holds came moves held w) (f ∷ []) g = (further : List ℕ) (r : Inflow)
    → buffered p n (moves ++ further) (joined f r).list empty_buffer ≡ buffered p n further (joined w r).list (buffer_at g held came)
DropRest p n x fs g = ⊥

-- the same of one that has not stopped
abbrev pub RestGiven : Policy → ℕ → Obligation → List Inflow → List Tree → Type 0
RestGiven p n (serves h) fs g = DropRest p n h fs g
RestGiven p n (stopped next moves) fs g = ⊤

-- Its row of a picture that rests, by what its next move is to be: it waits for its input where it is to take an element in, and its output
-- is not asked where it is to give one. With all moves made nothing is asked of it.
abbrev pub DroppingRestsBy : Next → Bool → SeenWire → SeenWire → Type 0
DroppingRestsBy Free empty i o = DroppingRests empty i o
DroppingRestsBy (Move zero) empty i o = Waits i
DroppingRestsBy (Move (suc k)) empty i o = IsUnasked o
DroppingRestsBy UsedUp empty i o = ⊤

-- the same over its own ports; or it has closed both its ports
abbrev pub DropRestsAt : Next → Policy → ℕ → List ℕ → InView → OutView → List Inflow → List Tree → Type 0
DropRestsAt next p n moves x y (f ∷ []) g = (IsShut (own_input x f.list) × IsShut (own_output y g))
    ⊎ DroppingRestsBy next (nothing_held (buffered p n moves f.list empty_buffer).held) (own_input x f.list) (own_output y g)
DropRestsAt next p n moves x y fs g = ⊥

-- the same, over what it knows of its two ports
abbrev pub DropRests : Next → Policy → ℕ → List ℕ → View → List Inflow → List Tree → Type 0
DropRests next p n moves v ins g = DropRestsAt next p n moves (in_at v 0) (out_at v 0) ins g

-- it gave an element for each one among its moves, and took at least one for each zero
abbrev pub DropCounts : List ℕ → List Inflow → List Tree → Type 0
DropCounts moves (f ∷ []) g = (length g ≡ count_of 1 moves) × (count_of 0 moves ≤ length f.list)
DropCounts moves fs g = ⊥

-- The cause of a misfit, over the outlook of the input: it ends, and the moves took all its elements in; or they leave nothing held.
abbrev pub DropMisfits : Policy → ℕ → Next → List ℕ → Outlook → Type 0
DropMisfits p n (Move zero) moves o = (o.ends ≡ true) × ((buffered p n moves o.list empty_buffer).came ≡ length o.list)
DropMisfits p n (Move (suc k)) moves o = nothing_held (buffered p n moves o.list empty_buffer).held ≡ true
DropMisfits p n _ moves o = ⊥
