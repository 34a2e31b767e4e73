-- The law of a valve: its moves say whether it acted by an order, and how many elements passed before. It passes each element on at
-- once, so it owes nothing between two calls. One that follows moves, and whose input is over before so many passed as they say, stops.
use Rattle.std.specs.Prelude.{false, ◌⊎◌, ◌≡◌, ◌≢◌, ◌+◌, ◌-◌, ◌<◌, ◌≤◌, ℕ, List, [], ◌∷◌, ◌++◌, length, take, ⊤}
use Rattle.elem_core.specs.Tree.{Tree}
use Rattle.elem_core.specs.declared.item.Item.{Item}
use Rattle.elem_core.specs.declared.item.Item.TheVariants as item
use Rattle.elem_core.specs.declared.why.Why.TheVariants.{Aborted}
use Rattle.elem_core.specs.declared.why.Cause.{Cause}
use Rattle.stream_model.specs.Outlook.{Outlook, End, unended, ended, failed}
use Rattle.stream_model.specs.FanIn.{Inflow}
use Rattle.stream_model.specs.Picks.{Acted, untouched, completed, aborted, ValveStands}
use Rattle.port_core.specs.declared.view.InView.{InView}
use Rattle.port_core.specs.declared.view.OutView.{OutView}
use Rattle.port_core.specs.View.{View, in_at, out_at}
use Rattle.stream_model.specs.OneWay.{as_it_is}
use Rattle.stream_model.specs.Rests.{IsShut, StageRests}
use Rattle.stage_core.specs.OwnPorts.{own_input, own_output}
use Rattle.port_core.specs.Call.{Call, cancels}
use Rattle.stage_core.specs.Held.{told, end_items}
use Rattle.stage_core.specs.Inflows.{coming, joined, PortsLaw}
use Rattle.stage_core.specs.Over.{IsOverAt}

-- between two calls: so many elements passed, and no order came; or it does nothing more, since its input is over before so many passed as
-- its moves say; or its output is closed, and it did this
pub data ValveHeld : Type 0 where
  passes : ℕ → ValveHeld
  stopped : ℕ → ValveHeld
  shut : Acted → ValveHeld

-- the failure of a valve that aborts
abbrev pub abort_of : ℕ → Cause
abort_of node = record { stage = node; nth = 0; why = Aborted }

-- what a valve gives of what comes, if this is what it does
abbrev pub acted_items : ℕ → Acted → Inflow → List Item
acted_items node untouched f = told f.list f.end
acted_items node (completed k) f = told (take k f.list) ended
acted_items node (aborted k) f = told (take k f.list) (failed (abort_of node))

-- the same act, counted from n elements on
abbrev pub sooner : ℕ → Acted → Acted
sooner n untouched = untouched
sooner n (completed k) = completed (k - n)
sooner n (aborted k) = aborted (k - n)

-- it comes once at least n elements have passed
abbrev pub NotBefore : ℕ → Acted → Type 0
NotBefore n untouched = ⊤
NotBefore n (completed k) = n ≤ k
NotBefore n (aborted k) = n ≤ k

-- what it still gives of what comes, if this is what it does in all
abbrev pub valve_gives : ℕ → ValveHeld → Acted → Inflow → List Item
valve_gives node (passes n) d f = acted_items node (sooner n d) f
valve_gives node (stopped k) d f = []
valve_gives node (shut a) d f = []

-- how it closes its output where this came: it passes an end on; or it acts by an order, and what came is dropped
abbrev pub ClosesBy : ℕ → ℕ → Inflow → List Item → Acted → Type 0
ClosesBy node n c out untouched = (c.end ≢ unended) × ((c.list ≡ []) × (out ≡ end_items c.end))
ClosesBy node n c out (completed k) = (k ≡ n) × (out ≡ item.Ended ∷ [])
ClosesBy node n c out (aborted k) = (k ≡ n) × (out ≡ item.Failed (abort_of node) ∷ [])

-- the same where its output was cancelled
abbrev pub RefusedBy : ℕ → Acted → Type 0
RefusedBy n untouched = ⊤
RefusedBy n (completed k) = k ≡ n
RefusedBy n (aborted k) = k ≡ n

-- what it does where this came and n elements had passed
abbrev pub ValveStep : ℕ → ℕ → Inflow → List Item → ValveHeld → Type 0
ValveStep node n c out (passes k) = (c.end ≡ unended) × ((k ≡ n + length c.list) × (out ≡ told c.list unended))
ValveStep node n c out (stopped k) = (c.end ≢ unended) × ((c.list ≡ []) × ((n < k) × (out ≡ [])))
ValveStep node n c out (shut a) = ClosesBy node n c out a

-- what a handler owes by its call; one that has closed its output is not called, and one that stopped does nothing
abbrev pub ValveTurnAt : ℕ → Call → ValveHeld → List Item → ValveHeld → Type 0
ValveTurnAt node call (shut a) out new = ⊥
ValveTurnAt node call (stopped k) out new = (out ≡ []) × (new ≡ stopped k)
ValveTurnAt node (cancels j) (passes n) out (passes k) = ⊥
ValveTurnAt node (cancels j) (passes n) out (stopped k) = ⊥
ValveTurnAt node (cancels j) (passes n) out (shut a) = (out ≡ []) × RefusedBy n a
ValveTurnAt node call (passes n) out new = ValveStep node n (coming call 0) out new

-- a valve that acted gave just the elements that its moves count
abbrev pub GaveUpTo : Acted → ℕ → Type 0
GaveUpTo untouched n = ⊤
GaveUpTo (completed k) n = n ≡ k
GaveUpTo (aborted k) n = n ≡ k

-- one that passes gave all that came; so did one that stopped, whose input is over; one that is closed may have given what it gave, and
-- just what its moves count
abbrev pub ValveKeeps : ℕ → ValveHeld → List Inflow → List Tree → End → Type 0
ValveKeeps node (passes n) (f ∷ []) g e = (e ≡ unended) × ((f.end ≡ unended) × ((g ≡ f.list) × (length g ≡ n)))
ValveKeeps node (stopped k) (f ∷ []) g e = (e ≡ unended) × ((f.end ≢ unended) × ((g ≡ f.list) × (length g < k)))
ValveKeeps node (shut a) (f ∷ []) g e = ValveStands node a f g e × GaveUpTo a (length g)
ValveKeeps node x fs g e = ⊥

-- the law of a valve over its whole history
abbrev pub ValveLaw : ℕ → ValveHeld → View → (ℕ → List Item) → List Item → Type 0
ValveLaw node x v took gave = PortsLaw (ValveKeeps node x) v took gave

-- what it did
abbrev pub did : ValveHeld → Acted
did (passes n) = untouched
did (stopped k) = untouched
did (shut a) = a

-- The residual law of a call: for every rest, and every act that may still come, what is pushed and then what is given from
-- now on is what was given before for what came and then the rest. Where it closed, that holds of the act which it did. Where it stopped,
-- nothing is given.
abbrev pub ValveResidual : ℕ → Call → ℕ → List Item → ValveHeld → Type 0
ValveResidual node (cancels j) n out new = out ≡ []
ValveResidual node call n out (passes k) = (d : Acted) → NotBefore k d → (r : Inflow)
    → valve_gives node (passes n) d (joined (coming call 0) r) ≡ out ++ valve_gives node (passes k) d r
ValveResidual node call n out (stopped k) = out ≡ []
ValveResidual node call n out (shut a) = (r : Inflow) → valve_gives node (passes n) a (joined (coming call 0) r) ≡ out

-- what it may have given, of one input
abbrev pub ValveStandsOf : ℕ → Acted → List Inflow → List Tree → End → Type 0
ValveStandsOf node a (f ∷ []) g e = ValveStands node a f g e
ValveStandsOf node a fs g e = ⊥

-- over a whole history: for every act that may still come and every rest, all that it gives is what it gave and what it gives from now on
abbrev pub ValveRest : ℕ → ℕ → List Inflow → List Tree → Type 0
ValveRest node n (f ∷ []) g = (d : Acted) → NotBefore n d → (r : Inflow) → acted_items node d (joined f r) ≡ told g unended ++ valve_gives node (passes n) d r
ValveRest node n fs g = ⊥

-- it gave all that came to its one input
abbrev pub PassedAll : List Inflow → List Tree → Type 0
PassedAll (f ∷ []) g = g ≡ f.list
PassedAll fs g = ⊥

-- It has closed both its ports; or it is asked, waits, and gave all that came; or nobody asks it, and it has not asked. This is
-- its row of a picture that rests, over its own ports.
abbrev pub RestsAt : InView → OutView → List Inflow → List Tree → Type 0
RestsAt x y (f ∷ []) g = (IsShut (own_input x f.list) × IsShut (own_output y g)) ⊎ StageRests (as_it_is 0 false) (own_input x f.list) (own_output y g)
RestsAt x y fs g = ⊥

-- the same of a view of its ports
abbrev pub ValveRests : View → List Inflow → List Tree → Type 0
ValveRests v ins g = RestsAt (in_at v 0) (out_at v 0) ins g

-- the cause of a misfit: its one input is over, and fewer elements came than its moves say
abbrev pub ValveMisfits : ℕ → List Inflow → Type 0
ValveMisfits k (f ∷ []) = (f.end ≢ unended) × (length f.list < k)
ValveMisfits k fs = ⊥

-- the same over its outlook: an end or a failure may come before so many elements
abbrev pub ValveCause : ℕ → List Outlook → Type 0
ValveCause k (o ∷ []) = (n : ℕ) × ((n < k) × IsOverAt o n)
ValveCause k os = ⊥
