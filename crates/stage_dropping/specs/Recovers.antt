-- The law of a recover: its moves say whether it turned a failure of its input into its own element, and how many elements
-- passed before. It passes each element on at once; its own element it owes until its output is asked.
use Rattle.std.specs.Prelude.{◌⊎◌, ◌≡◌, ◌≤◌, ◌<◌, ◌+◌, ℕ, List, [], ◌∷◌, ◌++◌, length, ⊤, true}
use Rattle.elem_core.specs.Prefix.{IsPrefix}
use Rattle.elem_core.specs.Tree.{Tree}
use Rattle.elem_core.specs.declared.item.Item.{Item}
use Rattle.elem_core.specs.declared.item.Item.TheVariants as item
use Rattle.stream_model.specs.Outlook.{Outlook, End, unended, ended, failed}
use Rattle.stream_model.specs.FanIn.{Inflow}
use Rattle.stream_model.specs.Picks.{Turned, RecoverStands}
use Rattle.port_core.specs.declared.view.InView.{InView}
use Rattle.port_core.specs.declared.view.OutView.{OutView}
use Rattle.port_core.specs.View.{View, in_at, out_at}
use Rattle.port_core.specs.Call.{Call, cancels}
use Rattle.port_core.specs.declared.pick_log.Next.{Next}
use Rattle.port_core.specs.declared.pick_log.Next.TheVariants.{Free, Move, UsedUp}
use Rattle.stream_model.specs.OneWay.{as_it_is}
use Rattle.stream_model.specs.Rests.{IsShut, StageRests}
use Rattle.stage_core.specs.OwnPorts.{own_input, own_output}
use Rattle.stage_core.specs.Held.{told}
use Rattle.stage_core.specs.Over.{EndsAt, FailsAt}
use Rattle.stage_core.specs.Inflows.{coming, joined, PortsLaw}

-- between two calls: so many elements passed; or the input failed behind them and its own element is owed; or it stopped, by what its
-- next move was to be; or its output is closed, and these are its moves
pub data RecoverHeld : Type 0 where
  passes : ℕ → RecoverHeld
  turned : ℕ → RecoverHeld
  stopped : Next → RecoverHeld
  shut : List ℕ → RecoverHeld

-- its own element and a normal end
abbrev pub own_items : Tree → List Item
own_items t = item.Elem t ∷ item.Ended ∷ []

-- what a recover gives of what comes: all of it, and its own element where that failed
abbrev pub recovered_by : Tree → List Tree → End → List Item
recovered_by t l unended = told l unended
recovered_by t l ended = told l ended
recovered_by t l (failed c) = told (l ++ t ∷ []) ended

-- what a recover gives of what comes: all of it, and its own element where that failed
abbrev pub recovered : Tree → Inflow → List Item
recovered t f = recovered_by t f.list f.end

-- what it still gives of what comes
abbrev pub recover_gives : Tree → RecoverHeld → Inflow → List Item
recover_gives t (passes n) r = recovered t r
recover_gives t (turned k) r = own_items t
recover_gives t (stopped next) r = []
recover_gives t (shut moves) r = []

-- the input has failed
abbrev pub IsBroken : End → Type 0
IsBroken unended = ⊥
IsBroken ended = ⊥
IsBroken (failed c) = ⊤

-- how it closes its output where this came and n elements had passed: with the normal end of its input, or with its own
-- element and the move that tells where the failure was
abbrev pub RecoverCloses : Tree → ℕ → Inflow → List Item → List ℕ → Type 0
RecoverCloses t n c out [] = (c.list ≡ []) × ((c.end ≡ ended) × (out ≡ item.Ended ∷ []))
RecoverCloses t n c out (k ∷ []) = (c.list ≡ []) × (IsBroken c.end × ((k ≡ n) × (out ≡ own_items t)))
RecoverCloses t n c out _ = ⊥

-- Why it stops, by what its next move was to be, where this came and n elements had passed: its input ended, or failed before as many had
-- passed as the move says, or gave one more; or its input failed, and no move is left to tell that.
abbrev pub StopsFor : Next → ℕ → Inflow → Type 0
StopsFor Free n c = ⊥
StopsFor (Move k) n c = ((c.list ≡ []) × ((c.end ≡ ended) ⊎ (IsBroken c.end × (n < k)))) ⊎ ((1 ≤ length c.list) × ((c.end ≡ unended) × (k ≡ n)))
StopsFor UsedUp n c = (c.list ≡ []) × IsBroken c.end

-- the same of all that came to its input: the cause of a misfit, where a move was to be made
abbrev pub HasStopped : Next → Inflow → Type 0
HasStopped Free f = ⊥
HasStopped (Move k) f = (f.end ≡ ended) ⊎ ((IsBroken f.end × (length f.list < k)) ⊎ (k < length f.list))
HasStopped UsedUp f = IsBroken f.end

-- what it does where this came and n elements had passed
abbrev pub RecoverStep : Tree → ℕ → Inflow → List Item → RecoverHeld → Type 0
RecoverStep t n c out (passes k) = (c.end ≡ unended) × ((k ≡ n + length c.list) × (out ≡ told c.list unended))
RecoverStep t n c out (turned k) = (c.list ≡ []) × (IsBroken c.end × ((k ≡ n) × (out ≡ [])))
RecoverStep t n c out (stopped next) = (out ≡ []) × StopsFor next n c
RecoverStep t n c out (shut moves) = RecoverCloses t n c out moves

-- what it does where its own element is owed
abbrev pub OwnStep : Tree → ℕ → List Item → RecoverHeld → Type 0
OwnStep t n out (passes k) = ⊥
OwnStep t n out (turned k) = (k ≡ n) × (out ≡ [])
OwnStep t n out (stopped next) = ⊥
OwnStep t n out (shut moves) = (moves ≡ n ∷ []) × (out ≡ own_items t)

-- its output was cancelled
abbrev pub RecoverRefused : List ℕ → List Item → RecoverHeld → Type 0
RecoverRefused was out (shut moves) = (out ≡ []) × (moves ≡ was)
RecoverRefused was out _ = ⊥

-- what a handler owes by its call; one that stopped does nothing more, and one that has closed its output is not called
abbrev pub RecoverTurnAt : Tree → Call → RecoverHeld → List Item → RecoverHeld → Type 0
RecoverTurnAt t call (shut moves) out new = ⊥
RecoverTurnAt t call (stopped next) out new = (out ≡ []) × (new ≡ stopped next)
RecoverTurnAt t (cancels j) (passes n) out new = RecoverRefused [] out new
RecoverTurnAt t (cancels j) (turned n) out new = RecoverRefused (n ∷ []) out new
RecoverTurnAt t call (passes n) out new = RecoverStep t n (coming call 0) out new
RecoverTurnAt t call (turned n) out new = OwnStep t n out new

-- one that passes gave all that came, as one that owes its own element did; one that stopped gave a first part of it; one that is closed
-- made at most one move, and may have given what it gave
abbrev pub RecoverKeeps : Tree → RecoverHeld → List Inflow → List Tree → End → Type 0
RecoverKeeps t (passes n) (f ∷ []) g e = (e ≡ unended) × ((f.end ≡ unended) × ((g ≡ f.list) × (length g ≡ n)))
RecoverKeeps t (turned n) (f ∷ []) g e = (e ≡ unended) × (Turned n f × (g ≡ f.list))
RecoverKeeps t (stopped next) (f ∷ []) g e = (e ≡ unended) × (IsPrefix g f.list × HasStopped next f)
RecoverKeeps t (shut moves) (f ∷ []) g e = (length moves ≤ 1) × RecoverStands t moves f g e
RecoverKeeps t x fs g e = ⊥

-- the law of a recover over its whole history
abbrev pub RecoverLaw : Tree → RecoverHeld → View → (ℕ → List Item) → List Item → Type 0
RecoverLaw t x v took gave = PortsLaw (RecoverKeeps t x) v took gave

-- its moves
abbrev pub recover_moves : RecoverHeld → List ℕ
recover_moves (passes n) = []
recover_moves (turned n) = n ∷ []
recover_moves (stopped next) = []
recover_moves (shut moves) = moves

-- what was to be given, for every rest, is what is pushed and then what is given from now on; of one that stops nothing is said
abbrev pub GivesAfter : (Inflow → List Item) → Tree → List Item → RecoverHeld → Type 0
GivesAfter before t out (stopped next) = ⊤
GivesAfter before t out new = (r : Inflow) → before r ≡ out ++ recover_gives t new r

-- The residual law of a call: for every rest, what is pushed and then what is given from now on is what was given before for
-- what came and then the rest. Of one that stops nothing is said.
abbrev pub RecoverResidual : Tree → Call → RecoverHeld → List Item → RecoverHeld → Type 0
RecoverResidual t (cancels j) x out new = out ≡ []
RecoverResidual t call x out new = GivesAfter (λ r. recover_gives t x (joined (coming call 0) r)) t out new

-- what it may have given, of one input, by at most one move
abbrev pub RecoverStandsOf : Tree → List ℕ → List Inflow → List Tree → End → Type 0
RecoverStandsOf t moves (f ∷ []) g e = (length moves ≤ 1) × RecoverStands t moves f g e
RecoverStandsOf t moves fs g e = ⊥

-- over a whole history: for every rest, all that it gives is what it gave and what it gives from now on, where it has not stopped
abbrev pub RecoverRest : Tree → RecoverHeld → List Inflow → List Tree → Type 0
RecoverRest t (shut moves) fs g = ⊤
RecoverRest t (stopped next) fs g = ⊤
RecoverRest t x (f ∷ []) g = (r : Inflow) → recovered t (joined f r) ≡ told g unended ++ recover_gives t x r
RecoverRest t x fs g = ⊥

-- It has closed both its ports; or it is asked, waits, and gave all that came; or nobody asks it, and it has not asked or its
-- input is over. This is its row of a picture that rests, over its own ports.
abbrev pub RestsAt : InView → OutView → List Inflow → List Tree → Type 0
RestsAt x y (f ∷ []) g = (IsShut (own_input x f.list) × IsShut (own_output y g)) ⊎ StageRests (as_it_is 1 true) (own_input x f.list) (own_output y g)
RestsAt x y fs g = ⊥

-- its input is shut, and what came there failed
abbrev pub FailedAt : InView → List Inflow → Type 0
FailedAt x (f ∷ []) = IsShut (own_input x f.list) × IsBroken f.end
FailedAt x fs = ⊥

-- its row of a picture that rests, over its own ports
abbrev pub RecoverRests : View → List Inflow → List Tree → Type 0
RecoverRests v ins g = RestsAt (in_at v 0) (out_at v 0) ins g

-- its move is how many elements it took, and it gave at most one more
abbrev pub RecoverCounts : List ℕ → List Inflow → List Tree → Type 0
RecoverCounts [] ins g = ⊤
RecoverCounts (k ∷ moves) (f ∷ []) g = (k ≡ length f.list) × (length g ≤ k + 1)
RecoverCounts (k ∷ moves) ins g = ⊥

-- the cause of a misfit, over what came to its one input
abbrev pub RecoverMisfits : Next → List Inflow → Type 0
RecoverMisfits (Move k) (f ∷ []) = HasStopped (Move k) f
RecoverMisfits next fs = ⊥

-- the same over its outlook: that ends, or a failure may come before as many elements as the move says, or it has more of them
abbrev pub RecoverCause : Next → List Outlook → Type 0
RecoverCause (Move k) (o ∷ []) = ((n : ℕ) × EndsAt o n) ⊎ (((n : ℕ) × ((n < k) × FailsAt o n)) ⊎ (k < length o.list))
RecoverCause next os = ⊥
