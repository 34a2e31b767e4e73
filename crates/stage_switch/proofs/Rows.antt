-- The rows of valves and trips: where they rest, and where they are called.
use Rattle.std.specs.Prelude.{slice_index_or}
use Rattle.std.proofs.Common.{◌≡◌, ◌≢◌, ℕ, zero, suc, ◌≤◌, ◌<◌, Bool, true, false, inl, inr, List, [], ◌∷◌, length, Option, IfSome, refl, sym, ap, subst, ◌∙◌, arith}
use Rattle.std.proofs.Math.Seq.{take-length}
use Rattle.elem_core.specs.Tree.{Tree}
use Rattle.elem_core.specs.declared.item.Item.{Item}
use Rattle.elem_core.specs.declared.item.Item.TheVariants as item
use Rattle.port_core.specs.declared.view.InView.{InView}
use Rattle.port_core.specs.declared.view.InView.TheVariants.{Idle, Pulled, Finished, Cancelled}
use Rattle.port_core.specs.declared.view.OutView.{OutView}
use Rattle.port_core.specs.declared.view.OutView.TheVariants as outlet
use Rattle.port_core.specs.View.{View, in_at, out_at, OneOne, OneOneOf, unpulled_ports}
use Rattle.port_core.specs.Call.{Call, starts, pulls, arrives, cancels, CallAllowed, Meets}
use Rattle.stream_model.specs.Outlook.{Outlook, End}
use Rattle.stream_model.specs.FanIn.{Inflow, AllAgree}
use Rattle.stage_core.specs.declared.phase.Phase.{Phase}
use Rattle.stage_core.specs.declared.phase.Phase.TheVariants.{New, Open, Closed}
use Rattle.stage_core.specs.Row.{BothClosed}
use Rattle.stream_model.specs.Machine.{going, Run}
use Rattle.elem_core.specs.declared.why.Decider.{Decider}
use Rattle.stream_model.specs.Linear.{Book, Stage, passing, linear, begin_work}
use Rattle.stage_core.specs.Law.{Law}
use Rattle.stage_core.specs.OwnPorts.{OwnRests}
use Rattle.stage_core.proofs.OwnRows.{waiting_rests, idle_rests, closed_rests as own_closed}
use Rattle.stage_switch.specs.declared.order.Order.{Order}
use Rattle.stage_switch.specs.Public.{SwitchState, SeatState}
use Rattle.port_core.specs.Picks.{IsMove, next_move}
use Rattle.stream_model.specs.Picks.{acted}
use Rattle.stage_switch.proofs.Following.{counts_from_none}
use Rattle.stage_core.proofs.Over.{over_at}
use Rattle.stage_switch.specs.Valves.{passes, ValveKeeps, ValveMisfits, ValveCause, RestsAt, ValveRests, PassedAll}
use Rattle.stage_switch.specs.States.{IsUnused, Valve, Unmoved, valve_port_state, valve_in, passing_port_state, valve_held_in, valve_held_by, counted_next, new_valve_of, follows_order, moves_by, Trip, trip_held_in, trip_stage, new_trip_of}
use Rattle.stage_switch.specs.Handling.{ValveFresh, ValvePortState, ValveAs, TripFresh, TripPortState, TripAs}

-- ---- where it rests

closed_rests : (x : InView) (y : OutView) (f : Inflow) (g : List Tree) → BothClosed x y → RestsAt x y (f ∷ []) g
closed_rests Finished outlet.Closed f g h = inl (refl, refl)
closed_rests Finished outlet.Cancelled f g h = inl (refl, refl)
closed_rests Cancelled outlet.Closed f g h = inl (refl, refl)
closed_rests Cancelled outlet.Cancelled f g h = inl (refl, refl)
closed_rests Idle y f g h = absurd h
closed_rests Pulled y f g h = absurd h
closed_rests Finished outlet.Unpulled f g h = absurd h
closed_rests Finished outlet.Available f g h = absurd h
closed_rests Cancelled outlet.Unpulled f g h = absurd h
closed_rests Cancelled outlet.Available f g h = absurd h

open_rests : (node n : ℕ) (x : InView) (y : OutView) (f : Inflow) (g : List Tree) (e : End) → passing_port_state Open x y → ValveKeeps node (passes n) (f ∷ []) g e → RestsAt x y (f ∷ []) g
open_rests node n Pulled outlet.Available f g e r k = inr (inl ((refl, refl), (refl, refl), ap length (k.1.1.0 ∙ sym (take-length f.list))))
open_rests node n Idle outlet.Unpulled f g e r k = inr (inr (inl ((refl, refl), inr (refl, refl))))
open_rests node n x y f g e r k = absurd r

rests_at : (node n : ℕ) (p : Phase) (moves : List ℕ) (x : InView) (y : OutView) (ins : List Inflow) (g : List Tree) (e : End) → p ≢ New → passing_port_state p x y → ValveKeeps node (valve_held_in p n moves) ins g e → RestsAt x y ins g
rests_at node n New moves x y ins g e s r k = absurd (s refl)
rests_at node n Open moves x y [] g e s r k = absurd k
rests_at node n Open moves x y (f ∷ []) g e s r k = open_rests node n x y f g e r k
rests_at node n Open moves x y (f ∷ h ∷ fs) g e s r k = absurd k
rests_at node n Closed moves x y [] g e s r k = absurd k
rests_at node n Closed moves x y (f ∷ []) g e s r k = closed_rests x y f g r
rests_at node n Closed moves x y (f ∷ h ∷ fs) g e s r k = absurd k

-- the row at the two ports
at_ports : (P : InView → OutView → Type 0) (xs : List InView) (ys : List OutView) → OneOneOf P xs ys → P (slice_index_or xs 0 Cancelled) (slice_index_or ys 0 outlet.Closed)
at_ports P (x ∷ []) (y ∷ []) r = r
at_ports P [] ys r = absurd r
at_ports P (x ∷ []) [] r = absurd r
at_ports P (x ∷ []) (y ∷ z ∷ ys) r = absurd r
at_ports P (x ∷ w ∷ xs) ys r = absurd r

-- what one that goes on knows of its ports
pub going_ports : (b : Bool) (l : Valve) (x : InView) (y : OutView) → b ≡ false → valve_in b l x y → passing_port_state l.phase x y
going_ports false l x y e r = r.0
going_ports true l x y e r = cc

-- one that does nothing more has the cause of its misfit; each other rests
rests_by : (node : ℕ) (b : Bool) (l : Valve) (x : InView) (y : OutView) (ins : List Inflow) (g : List Tree) (e : End) → b ≡ false → l.phase ≢ New → valve_in b l x y → ValveKeeps node (valve_held_by b l) ins g e → RestsAt x y ins g
rests_by node false l x y ins g e c n r k = rests_at node l.passed l.phase l.moves x y ins g e n r.0 k
rests_by node true l x y ins g e c n r k = cc

pub valve_rests : (first now : Valve) (v : View) (took gave : List (List Item)) → now.stuck ≡ false → ValvePortState now v → (law : ValveAs first now v took gave) → ValveRests v law.by.law.ins law.by.law.out_list
valve_rests first l v took gave calm r law =
    let ports = law.by.law in
    rests_by first.node l.stuck l (in_at v 0) (out_at v 0) ports.ins ports.out_list ports.out_end calm r.started (at_ports (valve_in l.stuck l) v.ins v.outs r.ports.0) ports.keeps

-- one that does nothing more has moves to make, and the cause of a misfit
stops_by : (node : ℕ) (b : Bool) (l : Valve) (ins : List Inflow) (g : List Tree) (e : End) → b ≡ true → ValveKeeps node (valve_held_by b l) ins g e → ValveMisfits (counted_next l.left) ins
stops_by node false l ins g e s k = cc
stops_by node true l [] g e s k = absurd k
stops_by node true l (f ∷ []) g e s k = (k.1.0, subst (λ (h : List Tree). length h < counted_next l.left) k.1.1.0 k.1.1.1)
stops_by node true l (f ∷ h ∷ fs) g e s k = absurd k

pub valve_stops : (first now : Valve) (v : View) (took gave : List (List Item)) → now.stuck ≡ true → (law : ValveAs first now v took gave) → IsMove (next_move now.left) × ValveMisfits (counted_next now.left) law.by.law.ins
valve_stops first l v took gave stuck law =
    let ports = law.by.law in
    ((law.stops stuck).1, stops_by first.node l.stuck l ports.ins ports.out_list ports.out_end stuck ports.keeps)

-- and over the outlook of its input
cause_over : (k : ℕ) (os : List Outlook) (ins : List Inflow) → AllAgree os ins → ValveMisfits k ins → ValveCause k os
cause_over k (o ∷ []) (f ∷ []) a h = (length f.list, (h.1, over_at o f.list f.end a.0 h.0))
cause_over k (o ∷ q ∷ os) (f ∷ []) a h = absurd a.1
cause_over k [] (f ∷ []) a h = absurd a
cause_over k os [] a h = absurd h
cause_over k os (f ∷ g ∷ ins) a h = absurd h

pub valve_cause : (os : List Outlook) (first now : Valve) (v : View) (took gave : List (List Item)) → now.stuck ≡ true → (law : ValveAs first now v took gave) → AllAgree os law.by.law.ins → ValveCause (counted_next now.left) os
valve_cause os first now v took gave stuck law a = cause_over (counted_next now.left) os law.by.law.ins a (valve_stops first now v took gave stuck law).1

-- where it waits it is asked, and gave all that came
waits_at : (node n : ℕ) (p : Phase) (moves : List ℕ) (x : InView) (y : OutView) (ins : List Inflow) (g : List Tree) (e : End) → x ≡ Pulled → passing_port_state p x y → ValveKeeps node (valve_held_in p n moves) ins g e → (y ≡ outlet.Available) × PassedAll ins g
waits_at node n New moves x y ins g e w r k = by_view x y w r
  where
    by_view : (x : InView) (y : OutView) → x ≡ Pulled → passing_port_state New x y → (y ≡ outlet.Available) × PassedAll ins g
    by_view Pulled y w r = absurd r
    by_view x y w r = cc
waits_at node n Closed moves x y ins g e w r k = by_view x y w r
  where
    by_view : (x : InView) (y : OutView) → x ≡ Pulled → BothClosed x y → (y ≡ outlet.Available) × PassedAll ins g
    by_view Pulled y w r = absurd r
    by_view x y w r = cc
waits_at node n Open moves x y [] g e w r k = absurd k
waits_at node n Open moves x y (f ∷ h ∷ fs) g e w r k = absurd k
waits_at node n Open moves x y (f ∷ []) g e w r k = (by_view x y w r, k.1.1.0)
  where
    by_view : (x : InView) (y : OutView) → x ≡ Pulled → passing_port_state Open x y → y ≡ outlet.Available
    by_view Pulled outlet.Available w r = refl
    by_view Pulled y w r = absurd r
    by_view x y w r = cc

waits_by : (node : ℕ) (b : Bool) (l : Valve) (x : InView) (y : OutView) (ins : List Inflow) (g : List Tree) (e : End) → x ≡ Pulled → valve_in b l x y → ValveKeeps node (valve_held_by b l) ins g e → (y ≡ outlet.Available) × PassedAll ins g
waits_by node false l x y ins g e w r k = waits_at node l.passed l.phase l.moves x y ins g e w r.0 k
waits_by node true l x y ins g e w r k = absurd (let z : Finished ≡ Pulled = sym r.1.0 ∙ w in cc)

pub valve_waits : (first now : Valve) (v : View) (took gave : List (List Item)) → ValvePortState now v → (law : ValveAs first now v took gave) → in_at v 0 ≡ Pulled → (out_at v 0 ≡ outlet.Available) × PassedAll law.by.law.ins law.by.law.out_list
valve_waits first l v took gave r law w =
    let ports = law.by.law in
    waits_by first.node l.stuck l (in_at v 0) (out_at v 0) ports.ins ports.out_list ports.out_end w (at_ports (valve_in l.stuck l) v.ins v.outs r.ports.0) ports.keeps

-- ---- where it is called

open_at : (p : Phase) (call : Call) (x : InView) (y : OutView) → p ≢ New → call ≢ starts → CallAllowed call (record { ins = x ∷ []; outs = y ∷ [] }) → passing_port_state p x y → p ≡ Open
open_at New call x y n s h r = absurd (n refl)
open_at Open call x y n s h r = refl
open_at Closed starts x y n s h r = absurd (s refl)
open_at Closed (pulls zero) Finished outlet.Closed n s h r = cc
open_at Closed (pulls zero) Finished outlet.Cancelled n s h r = cc
open_at Closed (pulls zero) Cancelled outlet.Closed n s h r = cc
open_at Closed (pulls zero) Cancelled outlet.Cancelled n s h r = cc
open_at Closed (pulls (suc j)) x y n s h r = cc
open_at Closed (arrives zero (item.Elem e)) Finished y n s h r = cc
open_at Closed (arrives zero (item.Elem e)) Cancelled y n s h r = cc
open_at Closed (arrives zero item.Ended) Finished y n s h r = absurd h
open_at Closed (arrives zero item.Ended) Cancelled y n s h r = absurd h
open_at Closed (arrives zero (item.Failed c)) Finished y n s h r = absurd h
open_at Closed (arrives zero (item.Failed c)) Cancelled y n s h r = absurd h
open_at Closed (arrives (suc i) (item.Elem e)) x y n s h r = cc
open_at Closed (arrives (suc i) item.Ended) x y n s h r = absurd h
open_at Closed (arrives (suc i) (item.Failed c)) x y n s h r = absurd h
open_at Closed (cancels zero) Finished outlet.Closed n s h r = absurd h
open_at Closed (cancels zero) Finished outlet.Cancelled n s h r = absurd h
open_at Closed (cancels zero) Cancelled outlet.Closed n s h r = absurd h
open_at Closed (cancels zero) Cancelled outlet.Cancelled n s h r = absurd h
open_at Closed (cancels (suc j)) x y n s h r = absurd h
open_at Closed call x y n s h r = absurd r

open_lists : (p : Phase) (call : Call) (xs : List InView) (ys : List OutView) → p ≢ New → call ≢ starts → CallAllowed call (record { ins = xs; outs = ys }) → OneOneOf (passing_port_state p) xs ys → p ≡ Open
open_lists p call (x ∷ []) (y ∷ []) n s h r = open_at p call x y n s h r
open_lists p call [] ys n s h r = absurd r
open_lists p call (x ∷ []) [] n s h r = absurd r
open_lists p call (x ∷ []) (y ∷ z ∷ ys) n s h r = absurd r
open_lists p call (x ∷ w ∷ xs) ys n s h r = absurd r

called_open : (p : Phase) (call : Call) (v : View) → p ≢ New → call ≢ starts → CallAllowed call v → OneOne (passing_port_state p) v → p ≡ Open
called_open p call v n s h r = open_lists p call v.ins v.outs n s h r

-- the same of a valve; one that does nothing more is open
valve_open : (b : Bool) (l : Valve) (call : Call) (xs : List InView) (ys : List OutView) → l.phase ≢ New → call ≢ starts → CallAllowed call (record { ins = xs; outs = ys }) → OneOneOf (valve_in b l) xs ys → l.phase ≡ Open
valve_open false l call (x ∷ []) (y ∷ []) n s h r = open_at l.phase call x y n s h r.0
valve_open true l call (x ∷ []) (y ∷ []) n s h r = r.0
valve_open b l call [] ys n s h r = absurd r
valve_open b l call (x ∷ []) [] n s h r = absurd r
valve_open b l call (x ∷ []) (y ∷ z ∷ ys) n s h r = absurd r
valve_open b l call (x ∷ w ∷ xs) ys n s h r = absurd r

pub called_valve : (l : Valve) (call : Call) (v : View) → call ≢ starts → CallAllowed call v → ValvePortState l v → l.phase ≡ Open
called_valve l call v s h r = valve_open l.stuck l call v.ins v.outs r.started s h r.ports.0

pub called_trip : (l : Trip) (call : Call) (v : View) → call ≢ starts → CallAllowed call v → TripPortState l v → l.phase ≡ Open
called_trip l call v s h r = called_open l.phase call v r.started s h r.ports

unmoved_new : (p : Phase) (moves : List ℕ) → p ≡ New → Unmoved p moves → moves ≡ []
unmoved_new New moves e u = u
unmoved_new Open moves e u = cc
unmoved_new Closed moves e u = cc

pub unmoved_open : (p : Phase) (moves : List ℕ) → p ≡ Open → Unmoved p moves → moves ≡ []
unmoved_open New moves e u = cc
unmoved_open Open moves e u = u
unmoved_open Closed moves e u = cc

-- one that was not started, and one that is open, made no move
pub none_new : (call : Call) (l : Valve) → l.phase ≡ New → Meets call (valve_port_state l) → l.moves ≡ []
none_new call l e m = unmoved_new l.phase l.moves e m.1.1.1

pub none_open : (call : Call) (l : Valve) → l.phase ≡ Open → Meets call (valve_port_state l) → l.moves ≡ []
none_open call l e m = unmoved_open l.phase l.moves e m.1.1.1

-- ---- a trip

module _ (book : Book) (start : Run Stage Tree) (took gave : List Item) where
  trip_at : (p : Phase) (s : Stage) (x : InView) (y : OutView) → p ≢ New → passing_port_state p x y → (law : Law (linear book passing) start (trip_held_in p s) x y took gave) → OwnRests (linear book passing) start false x y law.in_list law.out_list
  trip_at New s x y n r law = absurd (n refl)
  trip_at Closed s x y n r law = own_closed (linear book passing) start false x y law.in_list law.out_list r
  trip_at Open s Pulled outlet.Available n r law = waiting_rests (linear book passing) start false (going s) took gave law
  trip_at Open s Idle outlet.Unpulled n r law = idle_rests (linear book passing) start false law.in_list law.out_list
  trip_at Open s x y n r law = absurd r

  trip_lists : (p : Phase) (s : Stage) (xs : List InView) (ys : List OutView) → p ≢ New → OneOneOf (passing_port_state p) xs ys
      → (law : Law (linear book passing) start (trip_held_in p s) (slice_index_or xs 0 Cancelled) (slice_index_or ys 0 outlet.Closed) took gave) → OwnRests (linear book passing) start false (slice_index_or xs 0 Cancelled) (slice_index_or ys 0 outlet.Closed) law.in_list law.out_list
  trip_lists p s (x ∷ []) (y ∷ []) n r law = trip_at p s x y n r law
  trip_lists p s [] ys n r law = absurd r
  trip_lists p s (x ∷ []) [] n r law = absurd r
  trip_lists p s (x ∷ []) (y ∷ z ∷ ys) n r law = absurd r
  trip_lists p s (x ∷ w ∷ xs) ys n r law = absurd r

pub trip_rests : (book : Book) (d : Decider) (first now : Trip) (v : View) (took gave : List (List Item)) → TripPortState now v → (law : TripAs first now v took gave)
    → OwnRests (linear book passing) (begin_work first.node d passing) false (in_at v 0) (out_at v 0) (law.law book d).in_list (law.law book d).out_list
trip_rests book d first l v took gave r law = trip_lists book (begin_work first.node d passing) law.took_list law.gave_list l.phase (trip_stage d l) v.ins v.outs r.started r.ports (law.law book d)

-- ---- before it was started

pub new_valve : (node : ℕ) (switch : SwitchState) (seat : SeatState) → IsUnused switch seat → ValveFresh (new_valve_of node switch seat) unpulled_ports
new_valve node switch seat u = record { phase = refl; passed = refl; valve = record { one = u.0; gave = u.1.0; knows = u.1.1; formed = refl }; ports = ((tt, tt), refl) }

pub following_valve : (node : ℕ) (switch : SwitchState) (seat : SeatState) (moves : List ℕ) → IsUnused switch seat → moves ≡ moves_by (acted moves) → ValveFresh (follows_order moves (new_valve_of node switch seat)) unpulled_ports
following_valve node switch seat moves u f = record {
  phase = refl;
  passed = refl;
  valve = (record { one = u.0; gave = u.1.0; knows = u.1.1; formed = refl }, record { formed = refl; ahead = f });
  ports = ((tt, counts_from_none moves), refl);
}

pub new_trip : (node : ℕ) (order : Order) (count : ℕ) (switch : SwitchState) (seat : SeatState) → IsUnused switch seat → 1 ≤ count → TripFresh (new_trip_of node order count switch seat) unpulled_ports
new_trip node order count switch seat u c = record {
  phase = refl;
  taken = refl;
  trip = record { one = u.0; gave = subst (λ (m : Option Order). IfSome m (λ o. (o ≡ order) × (count ≤ 0))) (sym u.1.0) tt; knows = λ z. absurd (omega (arith, z, c)) };
  ports = tt;
}
