-- What a valve and a trip gave, against the outlooks of the model, and what their laws tell of their seats.
use Rattle.std.specs.Prelude.{nat_le}
use Rattle.std.proofs.Common.{◌≡◌, ◌≢◌, ℕ, zero, suc, ◌≤◌, List, [], ◌∷◌, ◌++◌, append-nil, inl, inr, ◌⊎◌, length, Option, None, Some, IfSome, Bool, true, false, refl, sym, ap, subst, ◌∙◌, arith}
use Rattle.std.proofs.lemmas.Bool.Decides.{nat_tests}
use Rattle.elem_core.specs.Tree.{Tree}
use Rattle.elem_core.specs.Items.{elements}
use Rattle.elem_core.specs.declared.item.Item.{Item}
use Rattle.elem_core.specs.declared.why.Decider.{Decider}
use Rattle.elem_core.proofs.Prefixes.{prefix_length}
use Rattle.port_core.specs.View.{View}
use Rattle.stage_switch.specs.declared.order.Order.{Order}
use Rattle.stage_switch.specs.declared.order.Order.TheVariants.{Shutdown, Abort}
use Rattle.stage_switch.specs.Public.{SwitchState, SeatState, IsSeatOf}
use Rattle.stream_model.specs.declared.kind.Kind.TheVariants as kind
use Rattle.stream_model.specs.Graph.{Graph}
use Rattle.stream_model.specs.Node.{World, node_outlook}
use Rattle.stream_model.specs.Outlook.{Outlook, End, unended, ended, failed, Agrees}
use Rattle.stream_model.specs.FanIn.{Inflow, AllAgree}
use Rattle.stream_model.specs.Linear.{passing, linear, begin_work}
use Rattle.stream_model.specs.Picks.{Acted, untouched, completed, aborted, acted, ValveStands, valve_fits, acted_outlook, valve_outlook}
use Rattle.stream_model.proofs.PickTraces.{agrees_prefix, valve_trace}
use Rattle.stage_core.proofs.Whole.{stage_agrees}
use Rattle.stage_core.specs.declared.phase.Phase.{Phase}
use Rattle.stage_core.specs.declared.phase.Phase.TheVariants.{New, Open, Closed}
use Rattle.stage_switch.specs.Valves.{did, GaveUpTo, ValveKeeps, ValveStandsOf}
use Rattle.port_core.specs.Picks.{IsMove, next_move, plan_of}
use Rattle.stage_switch.specs.States.{Valve, Unmoved, StopsWell, OnlyElements, counted_next, SeatBy, valve_held, valve_held_in, valve_held_by, moves_by, IsValve, Trip}
use Rattle.stage_switch.specs.Handling.{ValveAs, TripAs, trip_kind}
use Rattle.stage_switch.proofs.ValveTurns.{valve_stands}
use Rattle.stage_switch.proofs.Rows.{unmoved_open}
use Rattle.stage_switch.proofs.Following.{two_ahead, few_counted}
use Rattle.stage_core.specs.Held.{told}

-- ---- what a valve did

-- the moves that it made are none, or an order and a count
formed_by : (left : Option (List ℕ)) (switch : SwitchState) (seat : SeatState) (moves : List ℕ) → SeatBy left switch seat moves → moves ≡ moves_by (acted moves)
formed_by None switch seat moves h = h.formed
formed_by (Some left) switch seat moves h = h.1.formed

did_by : (p : Phase) (n : ℕ) (moves : List ℕ) → Unmoved p moves → did (valve_held_in p n moves) ≡ acted moves
did_by New n moves h = sym (ap acted h)
did_by Open n moves h = sym (ap acted h)
did_by Closed n moves h = refl

upto_by : (node : ℕ) (p : Phase) (n : ℕ) (moves : List ℕ) (ins : List Inflow) (g : List Tree) (e : End) → Unmoved p moves → ValveKeeps node (valve_held_in p n moves) ins g e → GaveUpTo (acted moves) (length g)
upto_by node New n moves ins g e h k = subst (λ (ms : List ℕ). GaveUpTo (acted ms) (length g)) (sym h) tt
upto_by node Open n moves ins g e h k = subst (λ (ms : List ℕ). GaveUpTo (acted ms) (length g)) (sym h) tt
upto_by node Closed n moves [] g e h k = absurd k
upto_by node Closed n moves (f ∷ []) g e h k = k.1
upto_by node Closed n moves (f ∷ i ∷ fs) g e h k = absurd k

-- the same of one that stopped, which made no move
did_in : (b : Bool) (l : Valve) → l.stuck ≡ b → Unmoved l.phase l.moves → StopsWell l → did (valve_held_by b l) ≡ acted l.moves
did_in false l e h s = did_by l.phase l.passed l.moves h
did_in true l e h s = sym (ap acted (unmoved_open l.phase l.moves (s e).0 h))

upto_in : (node : ℕ) (b : Bool) (l : Valve) (ins : List Inflow) (g : List Tree) (e : End) → l.stuck ≡ b → Unmoved l.phase l.moves → StopsWell l → ValveKeeps node (valve_held_by b l) ins g e → GaveUpTo (acted l.moves) (length g)
upto_in node false l ins g e i h s k = upto_by node l.phase l.passed l.moves ins g e h k
upto_in node true l ins g e i h s k = subst (λ (ms : List ℕ). GaveUpTo (acted ms) (length g)) (sym (unmoved_open l.phase l.moves (s i).0 h)) tt

counted : (order k : ℕ) (moves : List ℕ) (n : ℕ) → moves ≡ moves_by (acted moves) → GaveUpTo (acted moves) n → moves ≡ order ∷ k ∷ [] → n ≡ k
counted order k moves n f u e = by_order order (subst (λ (ms : List ℕ). ms ≡ moves_by (acted ms)) e f) (subst (λ (ms : List ℕ). GaveUpTo (acted ms) n) e u)
  where
    by_order : (order : ℕ) → order ∷ k ∷ [] ≡ moves_by (acted (order ∷ k ∷ [])) → GaveUpTo (acted (order ∷ k ∷ [])) n → n ≡ k
    by_order zero f u = cc
    by_order (suc zero) f u = u
    by_order (suc (suc zero)) f u = u
    by_order (suc (suc (suc i))) f u = cc

-- ---- its moves fit, and what it gave agrees

within : (k n : ℕ) → k ≤ n → nat_le k n ≡ true
within k n h = grind (arith, nat_tests)

fit_by : (node : ℕ) (a : Acted) (o : Outlook) (f : Inflow) (g : List Tree) (e : End) → Agrees o f.list f.end → ValveStands node a f g e → valve_fits (moves_by a) o ≡ true
fit_by node untouched o f g e h s = refl
fit_by node (completed k) o f g unended h s = within k (length o.list) (omega (arith, s.0, prefix_length (agrees_prefix o f.list f.end h)))
fit_by node (completed k) o f g ended h s = within k (length o.list) (omega (arith, s.0, prefix_length (agrees_prefix o f.list f.end h)))
fit_by node (completed k) o f g (failed c) h s = absurd s
fit_by node (aborted k) o f g unended h s = within k (length o.list) (omega (arith, s.0, prefix_length (agrees_prefix o f.list f.end h)))
fit_by node (aborted k) o f g ended h s = absurd s
fit_by node (aborted k) o f g (failed c) h s = within k (length o.list) (omega (arith, s.0, prefix_length (agrees_prefix o f.list f.end h)))

module _ (node : ℕ) (a : Acted) (o : Outlook) (g : List Tree) (e : End) where
  one_fits : (ins : List Inflow) → AllAgree (o ∷ []) ins → ValveStandsOf node a ins g e → valve_fits (moves_by a) o ≡ true
  one_fits [] h s = absurd s
  one_fits (f ∷ []) h s = fit_by node a o f g e h.0 s
  one_fits (f ∷ i ∷ fs) h s = absurd s

  one_agrees : (ins : List Inflow) → AllAgree (o ∷ []) ins → ValveStandsOf node a ins g e → Agrees (acted_outlook node a o) g e
  one_agrees [] h s = absurd s
  one_agrees (f ∷ []) h s = valve_trace node a o f g e h.0 s
  one_agrees (f ∷ i ∷ fs) h s = absurd s

module _ (first now : Valve) (v : View) (took gave : List (List Item)) (law : ValveAs first now v took gave) where
  formed : now.moves ≡ moves_by (acted now.moves)
  formed = formed_by now.left now.switch now.seat now.moves law.valve

  pub stands : ValveStandsOf first.node (acted now.moves) law.by.law.ins law.by.law.out_list law.by.law.out_end
  stands = subst (λ (a : Acted). ValveStandsOf first.node a law.by.law.ins law.by.law.out_list law.by.law.out_end) (did_in now.stuck now refl law.unmoved law.stops) (valve_stands first.node (valve_held now) v _ law.by.given law.by.law)

  pub counts : (order k : ℕ) → now.moves ≡ order ∷ k ∷ [] → length law.by.law.out_list ≡ k
  counts order k e =
      let ports = law.by.law in
      counted order k now.moves (length ports.out_list) formed (upto_in first.node now.stuck now ports.ins ports.out_list ports.out_end refl law.unmoved law.stops ports.keeps) e

  pub fits : (o : Outlook) → AllAgree (o ∷ []) law.by.law.ins → valve_fits now.moves o ≡ true
  fits o h = subst (λ (ms : List ℕ). valve_fits ms o ≡ true) (sym formed) (one_fits first.node (acted now.moves) o law.by.law.out_list law.by.law.out_end law.by.law.ins h stands)

  pub agrees : (g : Graph) (w : World) (name : List ℕ) (d : Decider) (o : Outlook) → w.moves first.node ≡ now.moves → AllAgree (o ∷ []) law.by.law.ins
      → Agrees (node_outlook g w first.node (kind.Valve name) d (o ∷ []) 0) law.by.law.out_list law.by.law.out_end
  agrees g w name d o same h =
      subst (λ (ms : List ℕ). Agrees (valve_outlook first.node ms o) law.by.law.out_list law.by.law.out_end) (sym same) (one_agrees first.node (acted now.moves) o law.by.law.out_list law.by.law.out_end law.by.law.ins h stands)

-- ---- a trip

pub trip_agrees : (g : Graph) (w : World) (name : List ℕ) (n : ℕ) (d : Decider) (o : Outlook) (order : Order) (first now : Trip) (v : View) (took gave : List (List Item)) → (law : TripAs first now v took gave)
    → Agrees o (law.law w.book d).in_list (law.law w.book d).in_end → Agrees (node_outlook g w first.node (trip_kind order name n) d (o ∷ []) 0) (law.law w.book d).out_list (law.law w.book d).out_end
trip_agrees g w name n d o Shutdown first now v took gave law h = stage_agrees (linear w.book passing) (begin_work first.node d passing) o _ _ _ law.took_list law.gave_list (law.law w.book d) h
trip_agrees g w name n d o Abort first now v took gave law h = stage_agrees (linear w.book passing) (begin_work first.node d passing) o _ _ _ law.took_list law.gave_list (law.law w.book d) h

-- ---- what the laws tell of the seats

-- one that followed nothing at first follows nothing
still_free : (moves : List ℕ) (left : Option (List ℕ)) → plan_of moves left ≡ None → left ≡ None
still_free moves None e = refl
still_free moves (Some left) e = cc

pub stays_free : (first now : Valve) (v : View) (took gave : List (List Item)) → ValveAs first now v took gave → first.left ≡ None → now.left ≡ None
stays_free first now v took gave law e = still_free now.moves now.left (law.plan ∙ ap (plan_of first.moves) e)

-- and it never stops
calm_of : (b : Bool) (l : Valve) → l.stuck ≡ b → l.left ≡ None → StopsWell l → b ≡ false
calm_of false l e f s = refl
calm_of true l e f s = absurd (subst (λ (o : Option (List ℕ)). IsMove (next_move o)) f (s e).1)

pub free_goes_on : (first now : Valve) (v : View) (took gave : List (List Item)) → ValveAs first now v took gave → first.left ≡ None → now.stuck ≡ false
free_goes_on first now v took gave law e = calm_of now.stuck now refl (stays_free first now v took gave law e) law.stops

pub valve_seat : (first now : Valve) (v : View) (took gave : List (List Item)) → ValveAs first now v took gave → first.left ≡ None → IsValve first.switch now.seat now.moves
valve_seat first now v took gave law free =
    let is : IsValve now.switch now.seat now.moves = subst (λ (o : Option (List ℕ)). SeatBy o now.switch now.seat now.moves) (stays_free first now v took gave law free) law.valve in
    record { one = is.one ∙ law.switch; gave = is.gave; knows = is.knows; formed = is.formed }

-- ---- one that follows moves

-- it follows some still
still_follows : (moves : List ℕ) (left : Option (List ℕ)) (plan : List ℕ) → plan_of moves left ≡ Some plan → (rest : List ℕ) × ((left ≡ Some rest) × (moves ++ rest ≡ plan))
still_follows moves None plan e = cc
still_follows moves (Some rest) plan e = (rest, (refl, cc))

pub follows_still : (first now : Valve) (v : View) (took gave : List (List Item)) → ValveAs first now v took gave → (plan : List ℕ) → first.moves ≡ [] → first.left ≡ Some plan → (rest : List ℕ) × ((now.left ≡ Some rest) × (now.moves ++ rest ≡ plan))
follows_still first now v took gave law plan none is =
    still_follows now.moves now.left plan (law.plan ∙ ap (λ (o : Option (List ℕ)). plan_of first.moves o) is ∙ ap (λ (ms : List ℕ). Some (ms ++ plan)) none)

-- an order and a count are not followed by more
whole_of : (moves rest : List ℕ) → moves ≡ moves_by (acted moves) → moves ++ rest ≡ moves_by (acted (moves ++ rest)) → (moves ≡ []) ⊎ (moves ≡ moves ++ rest)
whole_of [] rest f p = inl refl
whole_of (m ∷ l) [] f p = inr (sym (append-nil (m ∷ l)))
whole_of (m ∷ l) (j ∷ rest) f p =
    let two = two_ahead m l f in
    let all = two_ahead m (l ++ j ∷ rest) p in
    absurd (let z : two.count ∷ j ∷ rest ≡ all.count ∷ [] = ap (λ (h : List ℕ). h ++ j ∷ rest) (sym two.is) ∙ all.is in cc)

pub follows_whole : (first now : Valve) (v : View) (took gave : List (List Item)) → ValveAs first now v took gave → (plan : List ℕ) → plan ≡ moves_by (acted plan) → first.moves ≡ [] → first.left ≡ Some plan
    → (now.moves ≡ []) ⊎ (now.moves ≡ plan)
follows_whole first now v took gave law plan f none is =
    let s = follows_still first now v took gave law plan none is in
    let formed = formed_by now.left now.switch now.seat now.moves law.valve in
    elim (whole_of now.moves s.0 formed (subst (λ (p : List ℕ). p ≡ moves_by (acted p)) (sym s.1.1) f)) [
      | inl e ↦ inl e
      | inr e ↦ inr (e ∙ s.1.1)
    ]

pub follows_seat : (first now : Valve) (v : View) (took gave : List (List Item)) → ValveAs first now v took gave → (plan : List ℕ) → first.left ≡ Some plan → IsValve first.switch now.seat []
follows_seat first now v took gave law plan is =
    let s = still_some now.moves now.left (law.plan ∙ ap (λ (o : Option (List ℕ)). plan_of first.moves o) is) in
    let seat : IsValve now.switch now.seat [] = (subst (λ (o : Option (List ℕ)). SeatBy o now.switch now.seat now.moves) s.1 law.valve).0 in
    record { one = seat.one ∙ law.switch; gave = seat.gave; knows = seat.knows; formed = seat.formed }
  where
    still_some : (moves : List ℕ) (left : Option (List ℕ)) → plan_of moves left ≡ Some (first.moves ++ plan) → (rest : List ℕ) × (left ≡ Some rest)
    still_some moves None e = cc
    still_some moves (Some rest) e = (rest, refl)

-- elements alone leave an output open
open_end : (l : List Tree) (e : End) → OnlyElements (told l e) → e ≡ unended
open_end [] unended h = refl
open_end [] ended h = absurd h
open_end [] (failed c) h = absurd h
open_end (t ∷ l) e h = open_end l e h

told_count : (l : List Tree) (e : End) → elements (told l e) ≡ length l
told_count [] unended = refl
told_count [] ended = refl
told_count [] (failed c) = refl
told_count (t ∷ l) e = ap suc (told_count l e)

-- where moves are to be made, no end was given, and no more elements than they count
pub follows_few : (first now : Valve) (v : View) (took gave : List (List Item)) → (law : ValveAs first now v took gave) → IsMove (next_move now.left) → (law.by.law.out_end ≡ unended) × (length law.by.law.out_list ≤ counted_next now.left)
follows_few first now v took gave law m =
    let ports = law.by.law in
    let f = law.few m in
    let bound = few_counted now.left now.switch now.seat now.moves now.passed law.valve f.upto m in
    let long = told_count ports.out_list ports.out_end in
    let same = ap elements ports.gave_is in
    let count = f.count in
    (open_end ports.out_list ports.out_end (subst (λ (is : List Item). OnlyElements is) ports.gave_is f.only), omega (arith, bound, long, same, count))

pub follows_plan : (first now : Valve) (v : View) (took gave : List (List Item)) → ValveAs first now v took gave → plan_of now.moves now.left ≡ plan_of first.moves first.left
follows_plan first now v took gave law = law.plan

pub trip_seat : (first now : Trip) (v : View) (took gave : List (List Item)) → (law : TripAs first now v took gave)
    → IsSeatOf first.switch now.seat × IfSome now.seat.gave (λ o. (o ≡ first.order) × (first.count ≤ elements law.took_list)) × (first.count ≤ elements law.took_list → now.seat.knows ≢ None)
trip_seat first now v took gave law = (law.trip.one ∙ law.switch, by_order now.seat.gave law.trip.gave, λ h. law.trip.knows (let a = law.count in let b = law.taken in omega (arith, h)))
  where
    by_order : (m : Option Order) → IfSome m (λ o. (o ≡ now.order) × (now.count ≤ now.taken)) → IfSome m (λ o. (o ≡ first.order) × (first.count ≤ elements law.took_list))
    by_order None h = h
    by_order (Some o) h = (h.0 ∙ law.order, let a = law.count in let b = law.taken in let k = h.1 in omega arith)
