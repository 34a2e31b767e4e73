-- What each handler of a valve does keeps its port state, and is a turn of its law.
use Rattle.std.specs.Prelude.{◌≢◌, ◌==◌, Option, None, Some}
use Rattle.std.proofs.Common.{◌≡◌, ℕ, zero, suc, ◌+◌, ◌<◌, ◌≤◌, Bool, cond, true, false, List, [], ◌∷◌, ◌++◌, refl, sym, ap, ◌∙◌, subst, arith}
use Rattle.elem_core.specs.Tree.{Tree}
use Rattle.elem_core.specs.declared.why.Cause.{Cause}
use Rattle.elem_core.specs.declared.item.Item.{Item}
use Rattle.elem_core.specs.declared.item.Item.TheVariants as item
use Rattle.stream_model.specs.Picks.{untouched, acted}
use Rattle.port_core.specs.Picks.{next_move, plan_of, may_end, IsMove}
use Rattle.port_core.specs.declared.act.Act.{Act}
use Rattle.port_core.specs.declared.act.Act.TheVariants.{Pull, Push, Complete, FailOut, Cancel}
use Rattle.port_core.specs.Asking.{PullsStand}
use Rattle.port_core.specs.declared.view.InView.{InView}
use Rattle.port_core.specs.declared.view.InView.TheVariants.{Idle, Pulled, Finished, Cancelled}
use Rattle.port_core.specs.declared.view.OutView.{OutView}
use Rattle.port_core.specs.declared.view.OutView.TheVariants as outlet
use Rattle.port_core.specs.View.{View, OneOneOf, ActsAllowed, acted_all}
use Rattle.port_core.specs.Call.{Call, starts, pulls, arrives, cancels, MayCome, came, CallAllowed, seen, Obeys, Meets, given_on}
use Rattle.stage_core.specs.Row.{BothClosed}
use Rattle.stage_core.specs.declared.phase.Phase.{Phase}
use Rattle.stage_core.specs.declared.phase.Phase.TheVariants.{New, Open, Closed}
use Rattle.stage_switch.specs.declared.order.Order.{Order}
use Rattle.stage_switch.specs.declared.order.Order.TheVariants.{Shutdown, Abort}
use Rattle.stage_switch.specs.Valves.{ValveHeld, passes, stopped, shut, ValveTurnAt}
use Rattle.elem_core.specs.Items.{elements}
use Rattle.stage_switch.specs.States.{Valve, Unmoved, MayCount, OnlyElements, GivesFew, SeatBy, IsDue, due_order, numbered_order, order_number, moves_by, counted_next, passing_port_state, valve_in, valve_port_state, valve_held, valve_held_in, valve_held_by, watched, watched_by, stop_acts, ValveTurned}
use Rattle.stage_switch.proofs.Following.{two_ahead, equal_of, less_of, is_move, no_move, too_few}

abbrev one : InView → OutView → View
one x y = record { ins = x ∷ []; outs = y ∷ [] }

-- what a handler owes
pub record Handled (call : Call) (old : Valve) (acts : List Act) (new : Valve) : Type 0 where
  pub ports : Obeys call (valve_port_state old) (valve_port_state new) acts
  pub gives : ValveTurned call old acts new

-- by what is known of its two ports
obeys_by : (call : Call) (old new : Valve) (acts : List Act)
    → ((x : InView) (y : OutView) → CallAllowed call (one x y) → valve_in old.stuck old x y → Unmoved old.phase old.moves → ActsAllowed (seen call (one x y)) acts × valve_port_state new (acted_all (seen call (one x y)) acts))
    → Obeys call (valve_port_state old) (valve_port_state new) acts
obeys_by call old new acts step = record { allowed = λ v may r. (by_lists v.ins v.outs may r.0 r.1).0; ports = λ v may r. (by_lists v.ins v.outs may r.0 r.1).1 }
  where
    by_lists : (xs : List InView) (ys : List OutView) → CallAllowed call (record { ins = xs; outs = ys }) → OneOneOf (valve_in old.stuck old) xs ys → Unmoved old.phase old.moves
        → ActsAllowed (seen call (record { ins = xs; outs = ys })) acts × valve_port_state new (acted_all (seen call (record { ins = xs; outs = ys })) acts)
    by_lists (x ∷ []) (y ∷ []) may r u = step x y may r u
    by_lists [] ys may r u = absurd r
    by_lists (x ∷ []) [] may r u = absurd r
    by_lists (x ∷ []) (y ∷ z ∷ ys) may r u = absurd r
    by_lists (x ∷ w ∷ xs) ys may r u = absurd r

-- ---- one that does nothing more

ends_of : (b : Item) → MayCome b Finished → ⊥
ends_of (item.Elem t) may = let z : Finished ≡ Pulled = may in cc
ends_of item.Ended may = may
ends_of (item.Failed c) may = may

still_seen : (call : Call) (old : Valve) (x : InView) (y : OutView) → CallAllowed call (one x y) → valve_in true old x y → OneOneOf (valve_in true old) (seen call (one x y)).ins (seen call (one x y)).outs
still_seen starts old x y may r = r
still_seen (pulls zero) old x y may r = r
still_seen (pulls (suc j)) old x y may r = r
still_seen (cancels zero) old x y may r = r
still_seen (cancels (suc j)) old x y may r = r
still_seen (arrives (suc i) b) old x y may r = r
still_seen (arrives zero b) old x y may r = absurd (ends_of b (subst (λ (i : InView). MayCome b i) r.1.0 may))

-- nothing is done
pub stays_still : (call : Call) (old : Valve) → old.stuck ≡ true → old.phase ≡ Open → SeatBy old.left old.switch old.seat old.moves → IsMove (next_move old.left) → MayCount old.left old.passed → Handled call old [] old
stays_still call old on op well moves room = record {
  ports = obeys_by call old old [] (λ x y may r u. (tt, (subst (λ b. OneOneOf (valve_in b old) (seen call (one x y)).ins (seen call (one x y)).outs) (sym on) (still_seen call old x y may (subst (λ b. valve_in b old x y) on r)), u)));
  gives = record {
    turn = subst (λ (h : ValveHeld). ValveTurnAt old.node call h [] h) (sym (ap (λ b. valve_held_by b old) on)) (refl, refl);
    node = refl;
    switch = refl;
    looks = λ free. absurd (subst (λ (o : Option (List ℕ)). IsMove (next_move o)) free moves);
    valve = well;
    passed = λ e. refl;
    plan = refl;
    stops = λ s. (op, moves);
    few = λ m. record { moves = m; only = tt; count = omega arith; upto = room };
    stands = tt;
    started = λ e. let z : New ≡ Open = sym e ∙ op in cc;
  };
}

-- what is known of one that does nothing more
pub still_moves : (call : Call) (old : Valve) → old.stuck ≡ true → Meets call (valve_port_state old) → IsMove (next_move old.left) × MayCount old.left old.passed
still_moves call old on m = by_lists m.0.ins m.0.outs m.1.1.0
  where
    by_lists : (xs : List InView) (ys : List OutView) → OneOneOf (valve_in old.stuck old) xs ys → IsMove (next_move old.left) × MayCount old.left old.passed
    by_lists (x ∷ []) (y ∷ []) r = (subst (λ b. valve_in b old x y) on r).1.1
    by_lists [] ys r = absurd r
    by_lists (x ∷ []) [] r = absurd r
    by_lists (x ∷ []) (y ∷ z ∷ ys) r = absurd r
    by_lists (x ∷ w ∷ xs) ys r = absurd r

-- where something comes it goes on
pub goes_on : (b : Item) (old : Valve) → Meets (arrives 0 b) (valve_port_state old) → old.stuck ≡ false
goes_on b old m = by_test old.stuck refl
  where
    by_lists : (xs : List InView) (ys : List OutView) → old.stuck ≡ true → CallAllowed (arrives 0 b) (record { ins = xs; outs = ys }) → OneOneOf (valve_in old.stuck old) xs ys → ⊥
    by_lists (x ∷ []) (y ∷ []) on may r = ends_of b (subst (λ (i : InView). MayCome b i) (subst (λ b. valve_in b old x y) on r).1.0 may)
    by_lists [] ys on may r = r
    by_lists (x ∷ []) [] on may r = r
    by_lists (x ∷ []) (y ∷ z ∷ ys) on may r = r
    by_lists (x ∷ w ∷ xs) ys on may r = r

    by_test : (t : Bool) → old.stuck ≡ t → old.stuck ≡ false
    by_test true on = absurd (by_lists m.0.ins m.0.outs on m.1.0 m.1.1.0)
    by_test false on = on

-- what it may count while it goes on
pub may_count : (call : Call) (old : Valve) → old.stuck ≡ false → Meets call (valve_port_state old) → MayCount old.left old.passed
may_count call old on m = by_lists m.0.ins m.0.outs m.1.1.0
  where
    by_lists : (xs : List InView) (ys : List OutView) → OneOneOf (valve_in old.stuck old) xs ys → MayCount old.left old.passed
    by_lists (x ∷ []) (y ∷ []) r = (subst (λ b. valve_in b old x y) on r).1
    by_lists [] ys r = absurd r
    by_lists (x ∷ []) [] r = absurd r
    by_lists (x ∷ []) (y ∷ z ∷ ys) r = absurd r
    by_lists (x ∷ w ∷ xs) ys r = absurd r

-- ---- what was found

-- one that found this order, or none: what is as it was, and what it notes
pub record Found (l : Valve) (o : Option Order) (mid : Valve) : Type 0 where
  pub phase : mid.phase ≡ l.phase
  pub node : mid.node ≡ l.node
  pub passed : mid.passed ≡ l.passed
  pub stuck : mid.stuck ≡ l.stuck
  pub switch : mid.switch ≡ l.switch
  pub looks : l.left ≡ None → mid.seat.looks ≡ l.seat.looks + 1
  pub plan : plan_of mid.moves mid.left ≡ plan_of l.moves l.left
  pub seat : SeatBy mid.left mid.switch mid.seat mid.moves
  pub none : o ≡ None → (mid.moves ≡ l.moves) × (mid.left ≡ l.left)
  pub some : (a : Order) → o ≡ Some a → (mid.moves ≡ order_number a ∷ l.passed ∷ []) × (MayCount mid.left l.passed × (IsMove (next_move mid.left) → ⊥))

-- the moves whose order is due are that order and how many passed
due_plan : (left : List ℕ) (a : Order) (n : ℕ) → left ≡ moves_by (acted left) → Some a ≡ due_order left n → left ≡ order_number a ∷ n ∷ []
due_plan [] a n f d = cc
due_plan (m ∷ []) a n f d = cc
due_plan (m ∷ k ∷ l) a n f d = by_test (k == n) refl
  where
    by_test : (b : Bool) → (k == n) ≡ b → m ∷ k ∷ l ≡ order_number a ∷ n ∷ []
    by_test false e = absurd (let z : Some a ≡ None = subst (λ (b : Bool). Some a ≡ cond b (Some (numbered_order m)) None) e d in cc)
    by_test true e =
        let z : Some a ≡ Some (numbered_order m) = subst (λ (b : Bool). Some a ≡ cond b (Some (numbered_order m)) None) e d in
        let same : a ≡ numbered_order m = cc in
        let two = two_ahead m (k ∷ l) f in
        let both : k ∷ l ≡ two.count ∷ [] = two.is in
        let rest : l ≡ [] = cc in
        let first : m ≡ order_number a = sym two.order ∙ ap order_number (sym same) in
        rw (rest, equal_of k n e, sym first) refl

found_in : (left : Option (List ℕ)) (l : Valve) (o : Option Order) → l.left ≡ left → l.moves ≡ [] → SeatBy left l.switch l.seat l.moves → IsDue left l.passed o
    → SeatBy (watched_by left l o).left (watched_by left l o).switch (watched_by left l o).seat (watched_by left l o).moves → Found l o (watched_by left l o)
found_in None l None is none well due seat = record {
  phase = refl;
  node = refl;
  passed = refl;
  stuck = refl;
  switch = refl;
  looks = λ f. refl;
  plan = refl;
  seat = seat;
  none = λ e. (refl, refl);
  some = λ a e. cc;
}
found_in None l (Some a) is none well due seat = record {
  phase = refl;
  node = refl;
  passed = refl;
  stuck = refl;
  switch = refl;
  looks = λ f. refl;
  plan = ap (plan_of (order_number a ∷ l.passed ∷ [])) is ∙ sym (ap (plan_of l.moves) is);
  seat = seat;
  none = λ e. cc;
  some = λ b e. let same : a ≡ b = cc in (ap (λ (x : Order). order_number x ∷ l.passed ∷ []) same, (subst (λ (q : Option (List ℕ)). MayCount q l.passed) (sym is) tt, λ m. subst (λ (q : Option (List ℕ)). IsMove (next_move q)) is m));
}
found_in (Some left) l None is none well due seat = record {
  phase = refl;
  node = refl;
  passed = refl;
  stuck = refl;
  switch = refl;
  looks = λ f. let z : None ≡ Some left = sym f ∙ is in cc;
  plan = refl;
  seat = seat;
  none = λ e. (refl, refl);
  some = λ a e. cc;
}
found_in (Some left) l (Some a) is none well due seat = record {
  phase = refl;
  node = refl;
  passed = refl;
  stuck = refl;
  switch = refl;
  looks = λ f. let z : None ≡ Some left = sym f ∙ is in cc;
  plan = ap (λ (q : List ℕ). Some q) (sym (due_plan left a l.passed well.1.ahead due)) ∙ sym (ap (λ (ms : List ℕ). plan_of ms l.left) none ∙ ap (plan_of []) is);
  seat = seat;
  none = λ e. cc;
  some = λ b e. let same : a ≡ b = cc in (ap (λ (x : Order). order_number x ∷ l.passed ∷ []) same, (tt, λ m. m));
}

pub found : (l : Valve) (o : Option Order) (mid : Valve) → mid ≡ watched l o → l.moves ≡ [] → SeatBy l.left l.switch l.seat l.moves → IsDue l.left l.passed o → SeatBy mid.left mid.switch mid.seat mid.moves → Found l o mid
found l o mid is none well due seat =
    subst (λ (m : Valve). Found l o m) (sym is) (found_in l.left l o refl none well due (subst (λ (m : Valve). SeatBy m.left m.switch m.seat m.moves) is seat))

-- ---- one that goes on

closed_state : (new : Valve) (x : InView) (y : OutView) → new.stuck ≡ false → new.phase ≡ Closed → BothClosed x y → MayCount new.left new.passed → valve_port_state new (one x y)
closed_state new x y s p both count =
    (subst (λ b. valve_in b new x y) (sym s) (subst (λ q. passing_port_state q x y) (sym p) both, count), subst (λ q. Unmoved q new.moves) (sym p) tt)

open_state : (new : Valve) (x : InView) (y : OutView) → new.stuck ≡ false → new.phase ≡ Open → passing_port_state Open x y → MayCount new.left new.passed → new.moves ≡ [] → valve_port_state new (one x y)
open_state new x y s p r count none =
    (subst (λ b. valve_in b new x y) (sym s) (subst (λ q. passing_port_state q x y) (sym p) r, count), subst (λ q. Unmoved q new.moves) (sym p) none)

stuck_state : (new : Valve) (y : OutView) → new.stuck ≡ true → new.phase ≡ Open → IsMove (next_move new.left) → MayCount new.left new.passed → new.moves ≡ [] → valve_port_state new (one Finished y)
stuck_state new y s p moves room none = (subst (λ b. valve_in b new Finished y) (sym s) (p, (refl, (moves, room))), subst (λ q. Unmoved q new.moves) (sym p) none)

-- where it stood, and what it found
module _ (p : Phase) (old mid : Valve) (o : Option Order) (op : old.phase ≡ p) (on : old.stuck ≡ false) (unmoved : old.moves ≡ []) (count : MayCount old.left old.passed) (f : Found old o mid) where
  -- while it passes
  abbrev Passes : Type 0
  Passes = valve_held_in p old.passed old.moves ≡ passes old.passed

  owed : Passes → valve_held old ≡ passes old.passed
  owed owes = ap (λ b. valve_held_by b old) on ∙ ap (λ q. valve_held_in q old.passed old.moves) op ∙ owes

  -- by what is known of its ports
  obeys : (call : Call) (new : Valve) (acts : List Act)
      → ((x : InView) (y : OutView) → CallAllowed call (one x y) → passing_port_state p x y → ActsAllowed (seen call (one x y)) acts × valve_port_state new (acted_all (seen call (one x y)) acts))
      → Obeys call (valve_port_state old) (valve_port_state new) acts
  obeys call new acts step = obeys_by call old new acts (λ x y may r u. step x y may (subst (λ q. passing_port_state q x y) op (subst (λ b. valve_in b old x y) on r).0))

  turns : (call : Call) (out : List Item) (h k new : ValveHeld) → valve_held old ≡ h → new ≡ k → ValveTurnAt old.node call h out k → ValveTurnAt old.node call (valve_held old) out new
  turns call out h k new a b z = subst (λ (x : ValveHeld). ValveTurnAt old.node call x out new) (sym a) (subst (λ (y : ValveHeld). ValveTurnAt old.node call h out y) (sym b) z)

  goes_still : mid.stuck ≡ false
  goes_still = f.stuck ∙ on

  -- ---- it goes on

  -- nothing was found
  module _ (nothing : o ≡ None) where
    none_moved : mid.moves ≡ []
    none_moved = (f.none nothing).0 ∙ unmoved

    counts : MayCount mid.left mid.passed
    counts = subst (λ n. MayCount mid.left n) (sym f.passed) (subst (λ (q : Option (List ℕ)). MayCount q old.passed) (sym (f.none nothing).1) count)

    was_move : IsMove (next_move mid.left) → IsMove (next_move old.left)
    was_move m = subst (λ (q : Option (List ℕ)). IsMove (next_move q)) (f.none nothing).1 m

    -- one that is open now, and that so many have passed
    abbrev opened : ℕ → Valve
    opened n = record mid { phase = Open; passed = n }

    opened_held : (n : ℕ) → valve_held (opened n) ≡ passes n
    opened_held n = ap (λ b. valve_held_by b (opened n)) goes_still

    opens : (call : Call) (acts : List Act) (n : ℕ) → Passes → OnlyElements (given_on 0 acts) → n ≡ old.passed + elements (given_on 0 acts) → MayCount mid.left n
        → ValveTurnAt old.node call (passes old.passed) (given_on 0 acts) (passes n) → PullsStand acts → Obeys call (valve_port_state old) (valve_port_state (opened n)) acts → Handled call old acts (opened n)
    opens call acts n owes only sum room turn stand ports = record {
      ports = ports;
      gives = record {
        turn = turns call (given_on 0 acts) (passes old.passed) (passes n) (valve_held (opened n)) (owed owes) (opened_held n) turn;
        node = f.node;
        switch = f.switch;
        looks = f.looks;
        valve = f.seat;
        passed = λ e. let z : Open ≡ Closed = e in cc;
        plan = f.plan;
        stops = λ s. absurd (let z : true ≡ false = sym s ∙ goes_still in cc);
        few = λ m. record { moves = was_move m; only = only; count = sum; upto = room };
        stands = stand;
        started = λ e. let z : Open ≡ New = e in cc;
      };
    }

    -- closed by an end of its input
    abbrev ended_now : Valve
    ended_now = record mid { phase = Closed }

    ended_held : valve_held ended_now ≡ shut untouched
    ended_held = ap (λ b. valve_held_by b ended_now) goes_still ∙ ap (λ ms. shut (acted ms)) none_moved

    closes : (call : Call) (acts : List Act) → Passes → (IsMove (next_move mid.left) → GivesFew old ended_now (given_on 0 acts)) → ValveTurnAt old.node call (passes old.passed) (given_on 0 acts) (shut untouched) → PullsStand acts → Obeys call (valve_port_state old) (valve_port_state ended_now) acts → Handled call old acts ended_now
    closes call acts owes few turn stand ports = record {
      ports = ports;
      gives = record {
        turn = turns call (given_on 0 acts) (passes old.passed) (shut untouched) (valve_held ended_now) (owed owes) ended_held turn;
        node = f.node;
        switch = f.switch;
        looks = f.looks;
        valve = f.seat;
        passed = λ e. f.passed;
        plan = f.plan;
        stops = λ s. absurd (let z : true ≡ false = sym s ∙ goes_still in cc);
        few = few;
        stands = stand;
        started = λ e. let z : Closed ≡ New = e in cc;
      };
    }

    -- stopped, since its input is over too soon
    abbrev stopped_now : Valve
    stopped_now = record mid { stuck = true }

    halts : (call : Call) → Passes → p ≡ Open → IsMove (next_move old.left) → ValveTurnAt old.node call (passes old.passed) [] (stopped (counted_next old.left)) → Obeys call (valve_port_state old) (valve_port_state stopped_now) [] → Handled call old [] stopped_now
    halts call owes is moves turn ports = record {
      ports = ports;
      gives = record {
        turn = turns call [] (passes old.passed) (stopped (counted_next old.left)) (valve_held stopped_now) (owed owes) (ap (λ q. stopped (counted_next q)) (f.none nothing).1) turn;
        node = f.node;
        switch = f.switch;
        looks = f.looks;
        valve = f.seat;
        passed = λ e. f.passed;
        plan = f.plan;
        stops = λ s. (f.phase ∙ op ∙ is, move_now moves);
        few = λ m. record { moves = moves; only = tt; count = let e = f.passed in omega (arith, e); upto = counts };
        stands = tt;
        started = λ e. let z : New ≡ Open = sym e ∙ f.phase ∙ op ∙ is in cc;
      };
    }
      where
        move_now : IsMove (next_move old.left) → IsMove (next_move mid.left)
        move_now m = subst (λ (q : Option (List ℕ)). IsMove (next_move q)) (sym (f.none nothing).1) m

  -- ---- it acts by an order

  module _ (a : Order) (is : o ≡ Some a) where
    abbrev acted_now : Valve
    acted_now = record mid { phase = Closed }

    acted_counts : MayCount mid.left mid.passed
    acted_counts = subst (λ n. MayCount mid.left n) (sym f.passed) (f.some a is).1.0

    acted_held : valve_held acted_now ≡ shut (acted (order_number a ∷ old.passed ∷ []))
    acted_held = ap (λ b. valve_held_by b acted_now) goes_still ∙ ap (λ ms. shut (acted ms)) (f.some a is).0

    acts_by : (call : Call) (acts : List Act) → Passes → ValveTurnAt old.node call (passes old.passed) (given_on 0 acts) (shut (acted (order_number a ∷ old.passed ∷ []))) → PullsStand acts
        → Obeys call (valve_port_state old) (valve_port_state acted_now) acts → Handled call old acts acted_now
    acts_by call acts owes turn stand ports = record {
      ports = ports;
      gives = record {
        turn = turns call (given_on 0 acts) (passes old.passed) (shut (acted (order_number a ∷ old.passed ∷ []))) (valve_held acted_now) (owed owes) acted_held turn;
        node = f.node;
        switch = f.switch;
        looks = f.looks;
        valve = f.seat;
        passed = λ e. f.passed;
        plan = f.plan;
        stops = λ s. absurd (let z : true ≡ false = sym s ∙ goes_still in cc);
        few = λ m. absurd ((f.some a is).1.1 m);
        stands = stand;
        started = λ e. let z : Closed ≡ New = e in cc;
      };
    }

    acted_state : (x : InView) (y : OutView) → BothClosed x y → valve_port_state acted_now (one x y)
    acted_state x y both = closed_state acted_now x y goes_still refl both acted_counts

-- ---- the start

new_closed : (x : InView) (y : OutView) → passing_port_state New x y → (x ≡ Idle) × (y ≡ outlet.Unpulled)
new_closed Idle outlet.Unpulled r = (refl, refl)
new_closed x y r = absurd r

module _ (old mid : Valve) (o : Option Order) (op : old.phase ≡ New) (on : old.stuck ≡ false) (unmoved : old.moves ≡ []) (count : MayCount old.left old.passed) (f : Found old o mid) where
  abbrev open_now : Valve
  open_now = record mid { phase = Open; passed = old.passed }

  abbrev shut_at_once : Valve
  shut_at_once = record mid { phase = Closed }

  pub begins : o ≡ None → Handled starts old [] (record mid { phase = Open })
  begins nothing =
      subst (λ (m : Valve). Handled starts old [] m) (ap (λ n. record mid { phase = Open; passed = n }) (sym f.passed))
      (opens New old mid o op on unmoved count f nothing starts [] old.passed refl tt (omega arith) (subst (λ (q : Option (List ℕ)). MayCount q old.passed) (sym (f.none nothing).1) count) (refl, (omega arith, refl)) tt (obeys New old mid o op on unmoved count f starts open_now [] step))
    where
      step : (x : InView) (y : OutView) → CallAllowed starts (one x y) → passing_port_state New x y → ActsAllowed (seen starts (one x y)) [] × valve_port_state open_now (acted_all (seen starts (one x y)) [])
      step Idle outlet.Unpulled may r =
          (tt, open_state open_now Idle outlet.Unpulled (f.stuck ∙ on) refl tt (subst (λ (q : Option (List ℕ)). MayCount q old.passed) (sym (f.none nothing).1) count) ((f.none nothing).0 ∙ unmoved))
      step x y may r = absurd r

  pub begins_acting : (a : Order) → o ≡ Some a → Handled starts old (stop_acts old.node a true) (record mid { phase = Closed })
  begins_acting Shutdown is = acts_by New old mid o op on unmoved count f Shutdown is starts (stop_acts old.node Shutdown true) refl (refl, refl) tt (obeys New old mid o op on unmoved count f starts shut_at_once (stop_acts old.node Shutdown true) step)
    where
      step : (x : InView) (y : OutView) → CallAllowed starts (one x y) → passing_port_state New x y → ActsAllowed (seen starts (one x y)) (stop_acts old.node Shutdown true) × valve_port_state shut_at_once (acted_all (seen starts (one x y)) (stop_acts old.node Shutdown true))
      step Idle outlet.Unpulled may r = ((tt, (tt, tt)), acted_state New old mid o op on unmoved count f Shutdown is Cancelled outlet.Closed tt)
      step x y may r = absurd r
  begins_acting Abort is = acts_by New old mid o op on unmoved count f Abort is starts (stop_acts old.node Abort true) refl (refl, refl) tt (obeys New old mid o op on unmoved count f starts shut_at_once (stop_acts old.node Abort true) step)
    where
      step : (x : InView) (y : OutView) → CallAllowed starts (one x y) → passing_port_state New x y → ActsAllowed (seen starts (one x y)) (stop_acts old.node Abort true) × valve_port_state shut_at_once (acted_all (seen starts (one x y)) (stop_acts old.node Abort true))
      step Idle outlet.Unpulled may r = ((tt, (tt, tt)), acted_state New old mid o op on unmoved count f Abort is Cancelled outlet.Closed tt)
      step x y may r = absurd r

-- ---- its further calls

module _ (old mid : Valve) (o : Option Order) (op : old.phase ≡ Open) (on : old.stuck ≡ false) (unmoved : old.moves ≡ []) (count : MayCount old.left old.passed) (f : Found old o mid) where
  -- closed by what it found, or by an end
  abbrev shut_now : Valve
  shut_now = record mid { phase = Closed }

  abbrev Closes : Call → List Act → Type 0
  Closes call acts =
      (x : InView) (y : OutView) → CallAllowed call (one x y) → passing_port_state Open x y → ActsAllowed (seen call (one x y)) acts × valve_port_state shut_now (acted_all (seen call (one x y)) acts)

  -- no order was found
  module _ (nothing : o ≡ None) where
    left_same : MayCount mid.left old.passed
    left_same = subst (λ (q : Option (List ℕ)). MayCount q old.passed) (sym (f.none nothing).1) count

    moves_none : mid.moves ≡ []
    moves_none = (f.none nothing).0 ∙ unmoved

    abbrev asked_now : Valve
    asked_now = record mid { phase = Open; passed = old.passed }

    abbrev passed_now : Valve
    passed_now = record mid { phase = Open; passed = old.passed + 1 }

    pub asks : Handled (pulls 0) old (Pull 0 ∷ []) mid
    asks =
        subst (λ (m : Valve). Handled (pulls 0) old (Pull 0 ∷ []) m) (ap (λ q. record mid { phase = q; passed = old.passed }) (sym (f.phase ∙ op)) ∙ ap (λ n. record mid { passed = n }) (sym f.passed))
        (opens Open old mid o op on unmoved count f nothing (pulls 0) (Pull 0 ∷ []) old.passed refl tt (omega arith) left_same (refl, (omega arith, refl)) (tt, tt) (obeys Open old mid o op on unmoved count f (pulls 0) asked_now (Pull 0 ∷ []) step))
      where
        step : (x : InView) (y : OutView) → CallAllowed (pulls 0) (one x y) → passing_port_state Open x y → ActsAllowed (seen (pulls 0) (one x y)) (Pull 0 ∷ []) × valve_port_state asked_now (acted_all (seen (pulls 0) (one x y)) (Pull 0 ∷ []))
        step Pulled outlet.Available may r = absurd (let z : outlet.Available ≡ outlet.Unpulled = may in cc)
        step Idle outlet.Unpulled may r = ((refl, tt), open_state asked_now Pulled outlet.Available (f.stuck ∙ on) refl tt left_same moves_none)
        step x y may r = absurd r

    -- one that passes on has not come to what its moves count
    pub passes_on : (t : Tree) → MayCount mid.left (old.passed + 1) → Handled (arrives 0 (item.Elem t)) old (Push 0 t ∷ []) (record mid { passed = old.passed + 1 })
    passes_on t room =
        subst (λ (m : Valve). Handled (arrives 0 (item.Elem t)) old (Push 0 t ∷ []) m) (ap (λ q. record mid { phase = q; passed = old.passed + 1 }) (sym (f.phase ∙ op)))
        (opens Open old mid o op on unmoved count f nothing (arrives 0 (item.Elem t)) (Push 0 t ∷ []) (old.passed + 1) refl tt (omega arith) room (refl, (omega arith, refl)) tt
        (obeys Open old mid o op on unmoved count f (arrives 0 (item.Elem t)) passed_now (Push 0 t ∷ []) step))
      where
        step : (x : InView) (y : OutView) → CallAllowed (arrives 0 (item.Elem t)) (one x y) → passing_port_state Open x y
            → ActsAllowed (seen (arrives 0 (item.Elem t)) (one x y)) (Push 0 t ∷ []) × valve_port_state passed_now (acted_all (seen (arrives 0 (item.Elem t)) (one x y)) (Push 0 t ∷ []))
        step Pulled outlet.Available may r = ((refl, tt), open_state passed_now Idle outlet.Unpulled (f.stuck ∙ on) refl tt room moves_none)
        step Idle outlet.Unpulled may r = absurd (let z : Idle ≡ Pulled = may in cc)
        step x y may r = absurd r

    none_left : may_end (next_move old.left) ≡ true → IsMove (next_move mid.left) → ⊥
    none_left may m = no_move old.left may (was_move Open old mid o op on unmoved count f nothing m)

    pub ends : may_end (next_move old.left) ≡ true → Handled (arrives 0 item.Ended) old (Complete 0 ∷ []) shut_now
    ends may =
        closes Open old mid o op on unmoved count f nothing (arrives 0 item.Ended) (Complete 0 ∷ []) refl (λ m. absurd (none_left may m)) ((λ e. cc), (refl, refl)) tt (obeys Open old mid o op on unmoved count f (arrives 0 item.Ended) shut_now (Complete 0 ∷ []) step)
      where
        step : Closes (arrives 0 item.Ended) (Complete 0 ∷ [])
        step Pulled outlet.Available may r = ((tt, tt), closed_state shut_now Finished outlet.Closed (f.stuck ∙ on) refl tt (counts Open old mid o op on unmoved count f nothing))
        step Idle outlet.Unpulled may r = ((tt, tt), closed_state shut_now Finished outlet.Closed (f.stuck ∙ on) refl tt (counts Open old mid o op on unmoved count f nothing))
        step x y may r = absurd r

    pub fails : (c : Cause) → may_end (next_move old.left) ≡ true → Handled (arrives 0 (item.Failed c)) old (FailOut 0 c ∷ []) shut_now
    fails c may =
        closes Open old mid o op on unmoved count f nothing (arrives 0 (item.Failed c)) (FailOut 0 c ∷ []) refl (λ m. absurd (none_left may m)) ((λ e. cc), (refl, refl)) tt (obeys Open old mid o op on unmoved count f (arrives 0 (item.Failed c)) shut_now (FailOut 0 c ∷ []) step)
      where
        step : Closes (arrives 0 (item.Failed c)) (FailOut 0 c ∷ [])
        step Pulled outlet.Available may r = ((tt, tt), closed_state shut_now Finished outlet.Closed (f.stuck ∙ on) refl tt (counts Open old mid o op on unmoved count f nothing))
        step Idle outlet.Unpulled may r = ((tt, tt), closed_state shut_now Finished outlet.Closed (f.stuck ∙ on) refl tt (counts Open old mid o op on unmoved count f nothing))
        step x y may r = absurd r

    -- its input is over too soon
    over_ports : (b : Item) → (came b ≡ Finished) → IsMove (next_move old.left) → Obeys (arrives 0 b) (valve_port_state old) (valve_port_state (record mid { stuck = true })) []
    over_ports b over moves = obeys Open old mid o op on unmoved count f (arrives 0 b) (record mid { stuck = true }) [] step
      where
        step : (x : InView) (y : OutView) → CallAllowed (arrives 0 b) (one x y) → passing_port_state Open x y → ActsAllowed (seen (arrives 0 b) (one x y)) [] × valve_port_state (record mid { stuck = true }) (acted_all (seen (arrives 0 b) (one x y)) [])
        step x y may r = (
          tt,
          subst (λ (i : InView). valve_port_state (record mid { stuck = true }) (one i y)) (sym over)
              (stuck_state (record mid { stuck = true }) y refl (f.phase ∙ op) (subst (λ (q : Option (List ℕ)). IsMove (next_move q)) (sym (f.none nothing).1) moves) (counts Open old mid o op on unmoved count f nothing) moves_none),
        )

    pub stops_ended : SeatBy old.left old.switch old.seat old.moves → IsDue old.left old.passed None → may_end (next_move old.left) ≡ false → Handled (arrives 0 item.Ended) old [] (record mid { stuck = true })
    stops_ended well due may =
        let moves = is_move old.left may in
        halts Open old mid o op on unmoved count f nothing (arrives 0 item.Ended) refl refl moves ((λ e. cc), (refl, (too_few old.left old.switch old.seat old.moves old.passed well count due moves, refl))) (over_ports item.Ended refl moves)

    pub stops_failed : (c : Cause) → SeatBy old.left old.switch old.seat old.moves → IsDue old.left old.passed None → may_end (next_move old.left) ≡ false → Handled (arrives 0 (item.Failed c)) old [] (record mid { stuck = true })
    stops_failed c well due may =
        let moves = is_move old.left may in
        halts Open old mid o op on unmoved count f nothing (arrives 0 (item.Failed c)) refl refl moves ((λ e. cc), (refl, (too_few old.left old.switch old.seat old.moves old.passed well count due moves, refl))) (over_ports (item.Failed c) refl moves)

    pub leaves : Handled (cancels 0) old (Cancel 0 ∷ []) shut_now
    leaves = closes_cancelled
      where
        step : Closes (cancels 0) (Cancel 0 ∷ [])
        step Pulled outlet.Available may r = ((tt, tt), closed_state shut_now Cancelled outlet.Cancelled (f.stuck ∙ on) refl tt (counts Open old mid o op on unmoved count f nothing))
        step Idle outlet.Unpulled may r = ((tt, tt), closed_state shut_now Cancelled outlet.Cancelled (f.stuck ∙ on) refl tt (counts Open old mid o op on unmoved count f nothing))
        step x y may r = absurd r

        few : IsMove (next_move mid.left) → GivesFew old shut_now (given_on 0 (Cancel 0 ∷ []))
        few m = record {
          moves = was_move Open old mid o op on unmoved count f nothing m;
          only = tt;
          count = let e = f.passed in omega (arith, e);
          upto = counts Open old mid o op on unmoved count f nothing;
        }

        closes_cancelled : Handled (cancels 0) old (Cancel 0 ∷ []) shut_now
        closes_cancelled =
            closes Open old mid o op on unmoved count f nothing (cancels 0) (Cancel 0 ∷ []) refl few (refl, tt) tt (obeys Open old mid o op on unmoved count f (cancels 0) shut_now (Cancel 0 ∷ []) step)

  -- ---- it acts by an order

  pub asked_acts : (a : Order) → o ≡ Some a → Handled (pulls 0) old (stop_acts old.node a true) shut_now
  asked_acts Shutdown is = acts_by Open old mid o op on unmoved count f Shutdown is (pulls 0) (stop_acts old.node Shutdown true) refl (refl, refl) tt (obeys Open old mid o op on unmoved count f (pulls 0) shut_now (stop_acts old.node Shutdown true) step)
    where
      step : Closes (pulls 0) (stop_acts old.node Shutdown true)
      step Pulled outlet.Available may r = absurd (let z : outlet.Available ≡ outlet.Unpulled = may in cc)
      step Idle outlet.Unpulled may r = ((tt, (tt, tt)), acted_state Open old mid o op on unmoved count f Shutdown is Cancelled outlet.Closed tt)
      step x y may r = absurd r
  asked_acts Abort is = acts_by Open old mid o op on unmoved count f Abort is (pulls 0) (stop_acts old.node Abort true) refl (refl, refl) tt (obeys Open old mid o op on unmoved count f (pulls 0) shut_now (stop_acts old.node Abort true) step)
    where
      step : Closes (pulls 0) (stop_acts old.node Abort true)
      step Pulled outlet.Available may r = absurd (let z : outlet.Available ≡ outlet.Unpulled = may in cc)
      step Idle outlet.Unpulled may r = ((tt, (tt, tt)), acted_state Open old mid o op on unmoved count f Abort is Cancelled outlet.Closed tt)
      step x y may r = absurd r

  -- an element that comes then is dropped
  pub dropped_acts : (t : Tree) (a : Order) → o ≡ Some a → Handled (arrives 0 (item.Elem t)) old (stop_acts old.node a true) shut_now
  dropped_acts t Shutdown is =
      acts_by Open old mid o op on unmoved count f Shutdown is (arrives 0 (item.Elem t)) (stop_acts old.node Shutdown true) refl (refl, refl) tt (obeys Open old mid o op on unmoved count f (arrives 0 (item.Elem t)) shut_now (stop_acts old.node Shutdown true) step)
    where
      step : Closes (arrives 0 (item.Elem t)) (stop_acts old.node Shutdown true)
      step Pulled outlet.Available may r = ((tt, (tt, tt)), acted_state Open old mid o op on unmoved count f Shutdown is Cancelled outlet.Closed tt)
      step Idle outlet.Unpulled may r = absurd (let z : Idle ≡ Pulled = may in cc)
      step x y may r = absurd r
  dropped_acts t Abort is =
      acts_by Open old mid o op on unmoved count f Abort is (arrives 0 (item.Elem t)) (stop_acts old.node Abort true) refl (refl, refl) tt (obeys Open old mid o op on unmoved count f (arrives 0 (item.Elem t)) shut_now (stop_acts old.node Abort true) step)
    where
      step : Closes (arrives 0 (item.Elem t)) (stop_acts old.node Abort true)
      step Pulled outlet.Available may r = ((tt, (tt, tt)), acted_state Open old mid o op on unmoved count f Abort is Cancelled outlet.Closed tt)
      step Idle outlet.Unpulled may r = absurd (let z : Idle ≡ Pulled = may in cc)
      step x y may r = absurd r

  -- an end, or a failure, that comes then
  over_acts : (b : Item) → came b ≡ Finished → ((a : Order) → ValveTurnAt old.node (arrives 0 b) (passes old.passed) (given_on 0 (stop_acts old.node a false)) (shut (acted (order_number a ∷ old.passed ∷ []))))
      → (a : Order) → o ≡ Some a → Handled (arrives 0 b) old (stop_acts old.node a false) shut_now
  over_acts b over turn Shutdown is = acts_by Open old mid o op on unmoved count f Shutdown is (arrives 0 b) (stop_acts old.node Shutdown false) refl (turn Shutdown) tt (obeys Open old mid o op on unmoved count f (arrives 0 b) shut_now (stop_acts old.node Shutdown false) step)
    where
      after : valve_port_state shut_now (one (came b) outlet.Closed)
      after = subst (λ (i : InView). valve_port_state shut_now (one i outlet.Closed)) (sym over) (acted_state Open old mid o op on unmoved count f Shutdown is Finished outlet.Closed tt)

      step : Closes (arrives 0 b) (stop_acts old.node Shutdown false)
      step Pulled outlet.Available may r = ((tt, tt), after)
      step Idle outlet.Unpulled may r = ((tt, tt), after)
      step x y may r = absurd r
  over_acts b over turn Abort is = acts_by Open old mid o op on unmoved count f Abort is (arrives 0 b) (stop_acts old.node Abort false) refl (turn Abort) tt (obeys Open old mid o op on unmoved count f (arrives 0 b) shut_now (stop_acts old.node Abort false) step)
    where
      after : valve_port_state shut_now (one (came b) outlet.Closed)
      after = subst (λ (i : InView). valve_port_state shut_now (one i outlet.Closed)) (sym over) (acted_state Open old mid o op on unmoved count f Abort is Finished outlet.Closed tt)

      step : Closes (arrives 0 b) (stop_acts old.node Abort false)
      step Pulled outlet.Available may r = ((tt, tt), after)
      step Idle outlet.Unpulled may r = ((tt, tt), after)
      step x y may r = absurd r

  pub ended_acts : (a : Order) → o ≡ Some a → Handled (arrives 0 item.Ended) old (stop_acts old.node a false) shut_now
  ended_acts = over_acts item.Ended refl turn
    where
      turn : (a : Order) → ValveTurnAt old.node (arrives 0 item.Ended) (passes old.passed) (given_on 0 (stop_acts old.node a false)) (shut (acted (order_number a ∷ old.passed ∷ [])))
      turn Shutdown = (refl, refl)
      turn Abort = (refl, refl)

  pub failed_acts : (c : Cause) (a : Order) → o ≡ Some a → Handled (arrives 0 (item.Failed c)) old (stop_acts old.node a false) shut_now
  failed_acts c = over_acts (item.Failed c) refl turn
    where
      turn : (a : Order) → ValveTurnAt old.node (arrives 0 (item.Failed c)) (passes old.passed) (given_on 0 (stop_acts old.node a false)) (shut (acted (order_number a ∷ old.passed ∷ [])))
      turn Shutdown = (refl, refl)
      turn Abort = (refl, refl)

  -- its output was cancelled, and an order stands
  pub leaves_acting : (a : Order) → o ≡ Some a → Handled (cancels 0) old (Cancel 0 ∷ []) shut_now
  leaves_acting Shutdown is = acts_by Open old mid o op on unmoved count f Shutdown is (cancels 0) (Cancel 0 ∷ []) refl (refl, refl) tt (obeys Open old mid o op on unmoved count f (cancels 0) shut_now (Cancel 0 ∷ []) step)
    where
      step : Closes (cancels 0) (Cancel 0 ∷ [])
      step Pulled outlet.Available may r = ((tt, tt), acted_state Open old mid o op on unmoved count f Shutdown is Cancelled outlet.Cancelled tt)
      step Idle outlet.Unpulled may r = ((tt, tt), acted_state Open old mid o op on unmoved count f Shutdown is Cancelled outlet.Cancelled tt)
      step x y may r = absurd r
  leaves_acting Abort is = acts_by Open old mid o op on unmoved count f Abort is (cancels 0) (Cancel 0 ∷ []) refl (refl, refl) tt (obeys Open old mid o op on unmoved count f (cancels 0) shut_now (Cancel 0 ∷ []) step)
    where
      step : Closes (cancels 0) (Cancel 0 ∷ [])
      step Pulled outlet.Available may r = ((tt, tt), acted_state Open old mid o op on unmoved count f Abort is Cancelled outlet.Cancelled tt)
      step Idle outlet.Unpulled may r = ((tt, tt), acted_state Open old mid o op on unmoved count f Abort is Cancelled outlet.Cancelled tt)
      step x y may r = absurd r

-- an element that passed is not more than its moves count, since it acts where as many passed
pub one_more_counts : (left : Option (List ℕ)) (n : ℕ) → MayCount left n → IsDue left n None → MayCount left (n + 1)
one_more_counts None n h d = tt
one_more_counts (Some []) n h d = tt
one_more_counts (Some (m ∷ [])) n h d = tt
one_more_counts (Some (m ∷ k ∷ l)) n h d = by_test (k == n) refl
  where
    by_test : (b : Bool) → (k == n) ≡ b → n + 1 ≤ k
    by_test true e = absurd (let z : None ≡ Some (numbered_order m) = subst (λ (b : Bool). None ≡ cond b (Some (numbered_order m)) None) e d in cc)
    by_test false e = let less = less_of k n h e in omega (arith, less)
