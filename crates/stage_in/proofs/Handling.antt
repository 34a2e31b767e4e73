-- A call of a handler is what the trait of a stage asks; one of an output is of the one output.
use Rattle.std.specs.Prelude.{Result, OnOk, slice_index_or, Option}
use Rattle.std.proofs.Common.{◌≡◌, ◌≤◌, ℕ, zero, suc, Bool, true, false, List, [], ◌∷◌, length, refl, sym, ap, subst, arith}
use Rattle.elem_core.specs.Prefix.{IsPrefix}
use Rattle.port_core.specs.declared.act.Act.{Act}
use Rattle.port_core.specs.declared.view.OutView.{OutView}
use Rattle.port_core.specs.declared.view.OutView.TheVariants as outlet
use Rattle.port_core.specs.View.{View, IsOutOpen, acted_all}
use Rattle.port_core.specs.Call.{Call, starts, pulls, arrives, cancels, CallAllowed, Meets, seen, Obeys}
use Rattle.stage_core.specs.Rooms.{acts_for, HasRoom}
use Rattle.stage_core.specs.Handling.{PullsAs, Handles}
use Rattle.stage_core.proofs.OnOks.{on_ok_two}
use Rattle.stage_in.proofs.OnOks.{on_ok}
use Rattle.stage_core.specs.declared.phase.Phase.{Phase}
use Rattle.stage_core.specs.declared.phase.Phase.TheVariants.{New, Open, Closed}
use Rattle.stage_in.specs.declared.logic.InLogic.{InLogic}
use Rattle.stage_in.specs.declared.logic.InLogic.TheVariants as logic
use Rattle.stage_core.specs.Seats.{OneClosed}
use Rattle.stage_in.specs.Pairings.{Pairing, port_state_by}
use Rattle.stage_in.specs.Takings as taking
use Rattle.stage_in.specs.Sortings as sorted
use Rattle.stage_in.specs.Zippings as zipping
use Rattle.stage_merge.specs.Mergings as merging
use Rattle.stage_in.specs.Logics.{port_state, room_of, InAsking, Turned, InFresh, InPortState, InLaw}
use Rattle.stage_in.specs.Moves.{in_moves}
use Rattle.stage_in.proofs.Nodes.{called_fits, handled, turned_asks, turned_grows}

-- ---- it has one output

one_closed : (ys : List OutView) → OneClosed ys → length ys ≡ 1
one_closed [] h = absurd h
one_closed (y ∷ []) h = refl
one_closed (y ∷ z ∷ ys) h = absurd h

one_taking : (b : Bool) (l : taking.Taking) (v : View) → taking.port_state_by b l v → length v.outs ≡ 1
one_taking true l v r = ap (λ (w : View). length w.outs) r.0
one_taking false l v r = one_closed v.outs r.1

one_pairing : (Sound : Pairing → Type 0) (p : Phase) (l : Pairing) (v : View) → port_state_by Sound p l v → length v.outs ≡ 1
one_pairing Sound New l v r = ap (λ (w : View). length w.outs) r.0
one_pairing Sound Open l v r = ap (λ (w : View). length w.outs) r.0
one_pairing Sound Closed l v r = one_closed v.outs r.1

one_merging : (p : Phase) (plan : Option (List ℕ)) (l : merging.Core) (v : View) → merging.port_state_by p plan l v → length v.outs ≡ 1
one_merging New plan l v r = ap (λ (w : View). length w.outs) r.0
one_merging Open plan l v r = ap (λ (w : View). length w.outs) r.0
one_merging Closed plan l v r = one_closed v.outs r.1

one_merged : (b : Bool) (l : merging.Merging) (v : View) → merging.port_state_in b l v → length v.outs ≡ 1
one_merged false l v r = one_merging l.core.phase l.log.left l.core v r
one_merged true l v r = r.one

one_output : (l : InLogic) (v : View) → port_state l v → length v.outs ≡ 1
one_output (logic.Taking l) v r = one_taking l.live l v r
one_output (logic.Sorting l) v r = one_pairing sorted.Sound l.phase l v r
one_output (logic.Zipping l) v r = one_pairing zipping.Sound l.phase l v r
one_output (logic.Merging l) v r = one_merged l.log.stuck l v r

-- the same call of that output
abbrev pub at_output : Call → Call
at_output starts = starts
at_output (pulls j) = pulls 0
at_output (arrives i x) = arrives i x
at_output (cancels j) = cancels 0

no_other : (ys : List OutView) (j : _) → length ys ≡ 1 → IsOutOpen (slice_index_or ys (suc j) outlet.Closed) → ⊥
no_other [] j e h = absurd (omega (arith, e))
no_other (y ∷ []) j e h = h
no_other (y ∷ z ∷ ys) j e h = absurd (omega (arith, e))

output_is : (call : Call) (l : InLogic) (v : View) → CallAllowed call v → port_state l v → at_output call ≡ call
output_is starts l v h r = refl
output_is (pulls zero) l v h r = refl
output_is (pulls (suc j)) l v h r = absurd (no_other v.outs j (one_output l v r) (subst IsOutOpen (sym h) tt))
output_is (arrives i x) l v h r = refl
output_is (cancels zero) l v h r = refl
output_is (cancels (suc j)) l v h r = absurd (no_other v.outs j (one_output l v r) h)

-- ---- calls

-- what every stage is given is room enough
pub fits_new : (l : InLogic) (n : ℕ) → HasRoom starts (InFresh l) n → room_of l ≤ n
fits_new l n m = let r : room_of l ≤ acts_for m.0 = called_fits l starts m.0 m.1.0 m.1.1.0.ports in let h : acts_for m.0 ≤ n = m.1.1.1 in omega (arith, r, h)

pub fits : (call : Call) (l : InLogic) (n : ℕ) → HasRoom call (InPortState l) n → room_of l ≤ n
fits call l n m = let r : room_of l ≤ acts_for m.0 = called_fits l call m.0 m.1.0 m.1.1.0.ports in let h : acts_for m.0 ≤ n = m.1.1.1 in omega (arith, r, h)

pub met : (call : Call) (l : InLogic) → Meets call (InPortState l) → Meets (at_output call) (port_state l)
met call l m = subst (λ c. Meets c (port_state l)) (sym (output_is call l m.0 m.1.0 m.1.1.ports)) (m.0, (m.1.0, m.1.1.ports))

not_starts : (call : Call) → (call ≡ starts → ⊥) → at_output call ≡ starts → ⊥
not_starts starts n e = n refl
not_starts (pulls j) n e = cc
not_starts (arrives i x) n e = cc
not_starts (cancels j) n e = cc

pub handles : {T E : Type 0} (call : Call) (old new : InLogic) (acts : List Act) (r : Result T E) → (call ≡ starts → ⊥) → Meets call (InPortState old) → OnOk r (Obeys (at_output call) (port_state old) (port_state new) acts) → OnOk r (Turned (at_output call) old acts new)
    → OnOk r (Handles InPortState InLaw call old new acts)
handles call old new acts r n m o t =
    subst (λ c. OnOk r (Handles InPortState InLaw c old new acts)) (output_is call old m.0 m.1.0 m.1.1.ports)
    (on_ok_two r o t (λ a b. handled (at_output call) old new acts (not_starts call n) m.1.1.started a b))

pub grows : {T E : Type 0} (call : Call) (old new : InLogic) (acts : List Act) (r : Result T E) → OnOk r (Turned call old acts new) → OnOk r (IsPrefix (in_moves old) (in_moves new))
grows call old new acts r t = on_ok r (turned_grows call old new acts) t

-- one that asks has not stopped
pub asks : {T E : Type 0} (call own : Call) (Before : View → Type 0) (old new : InLogic) (acts : List Act) (r : Result T E) → OnOk r (Turned own old acts new) → OnOk r (PullsAs call Before (InAsking new) acts)
asks call own Before old new acts r t = on_ok r (λ q v may before p. turned_asks own old new acts (acted_all (seen call v) acts) q p) t
