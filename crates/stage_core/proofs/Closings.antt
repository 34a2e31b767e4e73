-- How ports are closed, that one whose ports are closed is not called, and that it rests.
use Rattle.std.specs.Prelude.{slice_set, slice_index_or}
use Rattle.std.proofs.Common.{◌≡◌, ℕ, zero, suc, ◌+◌, inl, Bool, true, false, List, [], ◌∷◌, ◌++◌, length, refl, sym, ap, arith, subst}
use Rattle.elem_core.specs.Tree.{Tree}
use Rattle.elem_core.specs.declared.item.Item.{Item}
use Rattle.elem_core.specs.declared.item.Item.TheVariants as item
use Rattle.port_core.specs.declared.act.Act.{Act}
use Rattle.port_core.specs.declared.view.InView.{InView}
use Rattle.port_core.specs.declared.view.InView.TheVariants.{Idle, Pulled, Finished, Cancelled}
use Rattle.port_core.specs.declared.view.OutView.{OutView}
use Rattle.port_core.specs.declared.view.OutView.TheVariants as outlet
use Rattle.port_core.specs.View as port
use Rattle.port_core.specs.View.{in_at, IsInOpen, IsOutOpen, ActsAllowed, acted_all}
use Rattle.port_core.specs.Asking.{PullsStand}
use Rattle.port_core.specs.Call.{AllUnpulled, MayCome, Call, starts, pulls, arrives, cancels, CallAllowed, given_on}
use Rattle.stream_model.specs.FanIn.{Inflow}
use Rattle.stream_model.specs.View.{SeenWire, EachWire}
use Rattle.stream_model.specs.Rests.{IsShut}
use Rattle.stage_core.specs.Seats.{wish, open_cancels, InsClosed, OneClosed, FanClosed}
use Rattle.stage_core.specs.OwnRows.{own_inputs, own_outputs, FanRests}

-- ---- the output

pub unasked_wish : (b : Bool) → wish b ≡ outlet.Unpulled → b ≡ false
unasked_wish true h = cc
unasked_wish false h = refl

pub open_wish : (b : Bool) → IsOutOpen (wish b)
open_wish true = tt
open_wish false = tt

-- ---- inputs that are closed one by one

pub ins_append : (a b : List InView) → InsClosed a → InsClosed b → InsClosed (a ++ b)
ins_append [] b h k = k
ins_append (x ∷ a) b h k = (h.0, ins_append a b h.1 k)

pub set_behind : (a b : List InView) (x y : InView) (n : ℕ) → length a ≡ n → slice_set (a ++ x ∷ b) n y ≡ a ++ y ∷ b
set_behind [] b x y n h = rw (← h) refl
set_behind (z ∷ a) b x y zero h = absurd (omega (arith, h))
set_behind (z ∷ a) b x y (suc n) h = ap (λ (xs : List InView). z ∷ xs) (set_behind a b x y n (omega (arith, h)))

pub at_behind : (a b : List InView) (x : InView) (n : ℕ) → length a ≡ n → slice_index_or (a ++ x ∷ b) n Cancelled ≡ x
at_behind [] b x n h = rw (← h) refl
at_behind (z ∷ a) b x zero h = absurd (omega (arith, h))
at_behind (z ∷ a) b x (suc n) h = at_behind a b x n (omega (arith, h))

pub record Cancels (v : port.View) (acts : List Act) : Type 0 where
  pub allowed : ActsAllowed v acts
  pub closed : InsClosed (acted_all v acts).ins
  pub outs : (acted_all v acts).outs ≡ v.outs

-- ---- cancels give nothing, and undo no ask

pub cancels_give : (n : ℕ) (over : List Bool) → given_on 0 (open_cancels n over) ≡ []
cancels_give n [] = refl
cancels_give n (true ∷ over) = cancels_give (n + 1) over
cancels_give n (false ∷ over) = cancels_give (n + 1) over

pub cancels_stand : (n : ℕ) (over : List Bool) → PullsStand (open_cancels n over)
cancels_stand n [] = tt
cancels_stand n (true ∷ over) = cancels_stand (n + 1) over
cancels_stand n (false ∷ over) = cancels_stand (n + 1) over

-- ---- one whose ports are closed is not called

closed_in : (xs : List InView) (i : ℕ) → InsClosed xs → IsInOpen (slice_index_or xs i Cancelled) → ⊥
closed_in [] i h o = o
closed_in (Idle ∷ xs) zero h o = h.0
closed_in (Pulled ∷ xs) zero h o = h.0
closed_in (Finished ∷ xs) zero h o = o
closed_in (Cancelled ∷ xs) zero h o = o
closed_in (x ∷ xs) (suc i) h o = closed_in xs i h.1 o

closed_out : (ys : List OutView) (j : ℕ) → OneClosed ys → IsOutOpen (slice_index_or ys j outlet.Closed) → ⊥
closed_out [] j h o = h
closed_out (outlet.Unpulled ∷ []) zero h o = h
closed_out (outlet.Available ∷ []) zero h o = h
closed_out (outlet.Closed ∷ []) zero h o = o
closed_out (outlet.Cancelled ∷ []) zero h o = o
closed_out (y ∷ []) (suc j) h o = o
closed_out (y ∷ z ∷ ys) j h o = h

comes_open : (x : Item) (p : InView) → MayCome x p → IsInOpen p
comes_open (item.Elem e) p h = subst IsInOpen (sym h) tt
comes_open item.Ended p h = h
comes_open (item.Failed c) p h = h

closed_unasked : (ys : List OutView) → OneClosed ys → AllUnpulled ys → ⊥
closed_unasked [] h a = h
closed_unasked (outlet.Unpulled ∷ []) h a = h
closed_unasked (outlet.Available ∷ []) h a = h
closed_unasked (outlet.Closed ∷ []) h a = let x : outlet.Closed ≡ outlet.Unpulled = a.0 in cc
closed_unasked (outlet.Cancelled ∷ []) h a = let x : outlet.Cancelled ≡ outlet.Unpulled = a.0 in cc
closed_unasked (y ∷ z ∷ ys) h a = h

pub none_called : (c : Call) (v : port.View) → CallAllowed c v → FanClosed v → ⊥
none_called starts v m h = closed_unasked v.outs h.1 m.1
none_called (pulls j) v m h = closed_out v.outs j h.1 (subst IsOutOpen (sym m) tt)
none_called (arrives i x) v m h = closed_in v.ins i h.0 (comes_open x (in_at v i) m)
none_called (cancels j) v m h = closed_out v.outs j h.1 m

-- ---- closed ports

ins_shut : (xs : List InView) (fs : List Inflow) → InsClosed xs → EachWire IsShut (own_inputs xs fs)
ins_shut [] fs h = tt
ins_shut (x ∷ xs) [] h = tt
ins_shut (Finished ∷ xs) (f ∷ fs) h = (refl, ins_shut xs fs h.1)
ins_shut (Cancelled ∷ xs) (f ∷ fs) h = (refl, ins_shut xs fs h.1)
ins_shut (Idle ∷ xs) (f ∷ fs) h = absurd h.0
ins_shut (Pulled ∷ xs) (f ∷ fs) h = absurd h.0

out_shut : (ys : List OutView) (g : List Tree) → OneClosed ys → EachWire IsShut (own_outputs ys g)
out_shut (outlet.Closed ∷ []) g h = (refl, tt)
out_shut (outlet.Cancelled ∷ []) g h = (refl, tt)
out_shut (outlet.Unpulled ∷ []) g h = absurd h
out_shut (outlet.Available ∷ []) g h = absurd h
out_shut [] g h = absurd h
out_shut (y ∷ z ∷ ys) g h = absurd h

pub ports_shut : (v : port.View) (ins : List Inflow) (g : List Tree) → FanClosed v → EachWire IsShut (own_inputs v.ins ins) × EachWire IsShut (own_outputs v.outs g)
ports_shut v ins g h = (ins_shut v.ins ins h.0, out_shut v.outs g h.1)

pub closed_rests : (P : List SeenWire → SeenWire → Type 0) (v : port.View) (ins : List Inflow) (g : List Tree) → FanClosed v → FanRests P v ins g
closed_rests P v ins g h = inl (ports_shut v ins g h)
