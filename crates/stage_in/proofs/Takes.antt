-- What the handlers of a concat and an interleave do keeps their row, and is a turn of their list function.
use Rattle.std.specs.Prelude.{◌==◌, replicate, if◌then◌else◌, slice_get, slice_set, slice_index_or}
use Rattle.std.proofs.Common.{◌≡◌, ℕ, zero, suc, ◌+◌, ◌≤◌, ◌<◌, ◌⊎◌, inl, inr, Bool, true, false, List, [], ◌∷◌, length, map, refl, sym, ap, ◌∙◌, subst, arith, Option, Some, None}
use Rattle.std.proofs.lemmas.Option.{slice_get_within}
use Rattle.std.proofs.lemmas.List.{length-set, length-replicate}
use Rattle.elem_core.specs.Tree.{Tree}
use Rattle.elem_core.specs.declared.why.Cause.{Cause}
use Rattle.elem_core.specs.declared.item.Item.{Item}
use Rattle.elem_core.specs.declared.item.Item.TheVariants as item
use Rattle.port_core.specs.declared.act.Act.{Act}
use Rattle.port_core.specs.declared.act.Act.TheVariants.{Pull, Push, Complete, FailOut}
use Rattle.port_core.specs.declared.view.InView.{InView}
use Rattle.port_core.specs.declared.view.InView.TheVariants as inlet
use Rattle.port_core.specs.declared.view.OutView.{OutView}
use Rattle.port_core.specs.declared.view.OutView.TheVariants.{Unpulled, Available, Closed, Cancelled}
use Rattle.port_core.specs.View.{View, in_at, IsInOpen, IsOutOpen, ActsAllowed, acted_all}
use Rattle.port_core.specs.Asking.{PullsStand}
use Rattle.port_core.specs.Call.{Call, starts, pulls, arrives, cancels, CallAllowed, seen, Obeys, Meets, given_on}
use Rattle.stream_model.specs.Outlook.{ended, failed}
use Rattle.stream_model.specs.FanIn.{Tagged, tag, Inflow, flow}
use Rattle.stream_model.specs.declared.kind.TheConstants.{MAX_FAN}
use Rattle.stage_core.specs.Held.{told}
use Rattle.stage_core.specs.Inflows.{nothing_came, joined_all, coming}
use Rattle.stage_core.specs.Fans.{FanPlace, AllFew, untagged, fan_gives, FanTurn, FanClose, completes, fails}
use Rattle.stage_core.proofs.Inflows.{joined_all-nothing_came}
use Rattle.stage_in.specs.Kinds.{taking_by}
use Rattle.stage_core.specs.Seats.{wish, open_cancels, InsClosed, OneClosed, FanClosed}
use Rattle.stage_in.specs.Seats.{seat, seats, none_of}
use Rattle.stage_in.specs.Takings.{Begins, Taking, place_of, OverBetween, AllOverBut, InOrder, IsNext, view_of, Sound, port_state_by, port_state, Turned, Counted, fresh_left, WentOn, goes_on, ends, Does, Passed, without, failed_by, relinked, HasFollowers, InputFinished, another, current}
use Rattle.stage_core.proofs.Flags.{set_here, set_other, set_keeps}
use Rattle.stage_core.proofs.Closings.{unasked_wish, open_wish, cancels_give, cancels_stand}
use Rattle.stage_in.proofs.Seats.{ended_seat, waits_current, open_seat, unmarked, all_cancelled, idle_seat, marked_now, over_now, all_over_closed}
use Rattle.stage_in.proofs.Steps.{FirstOf, element_given, none_given}
use Rattle.stage_in.proofs.Waits.{came_end, came_first, used_at, none_waits, uses_none, uses_came, none_few, length-outlooks, all_ended, failed_at}
use Rattle.stage_in.proofs.Links.{relinks, ring_linked}
use Rattle.stage_in.proofs.Rounds.{counted_same, passed_same}

-- ---- turns

pub no_hold : (segment : Option ℕ) → (taking_by segment).hold ≡ 0
no_hold None = refl
no_hold (Some k) = refl

few_wait : (segment : Option ℕ) (over : List Bool) → AllFew (taking_by segment).hold (none_of over)
few_wait segment over = rw (no_hold segment) (none_few over)

module _ (segment : Option ℕ) where
  -- nothing is given, and the state is another that gives the same
  moved_turn : (s t : FanPlace) (over : List Bool) (waited : List Inflow) → waited ≡ none_of over
      → ((more : ℕ → Inflow) → fan_gives (taking_by segment) s (joined_all 0 (none_of over) more) ≡ fan_gives (taking_by segment) t (joined_all 0 (none_of over) more))
      → FanTurn (taking_by segment) s waited [] t (none_of over)
  moved_turn s t over waited is same = record {
    given = [];
    out_is = refl;
    uses = rw is (uses_none 0 (none_of over));
    few = few_wait segment over;
    same = λ more. rw is (same more);
  }

  quiet_turn : (s : FanPlace) (over : List Bool) → FanTurn (taking_by segment) s (joined_all 0 (none_of over) (λ _. nothing_came)) [] s (none_of over)
  quiet_turn s over = moved_turn s s over (joined_all 0 (none_of over) (λ _. nothing_came)) (joined_all-nothing_came 0 (none_of over)) (λ more. refl)

  -- an element of the current input is given
  element_turn : (old new : Taking) (e : Tree) → slice_get old.over old.current ≡ Some false → Counted segment old new
      → FanTurn (taking_by segment) (place_of old) (joined_all 0 (none_of old.over) (coming (arrives old.current (item.Elem e)))) (item.Elem e ∷ []) (place_of new) (none_of old.over)
  element_turn old new e here counted =
      let z : 0 + old.current ≡ old.current = omega arith in
      record {
        given = tag old.current e ∷ [];
        out_is = refl;
        uses = (let r = uses_came 0 old.current e old.over here in rw z at r);
        few = few_wait segment old.over;
        same = λ more.
            let f : FirstOf old.current e (map flow (joined_all 0 (joined_all 0 (none_of old.over) (coming (arrives old.current (item.Elem e)))) more)) (map flow (joined_all 0 (none_of old.over) more)) =
            (let r = came_first 0 old.current e old.over more here in rw z at r) in
            element_given segment (length old.over) (place_of old) e (map flow (joined_all 0 (joined_all 0 (none_of old.over) (coming (arrives old.current (item.Elem e)))) more)) (map flow (joined_all 0 (none_of old.over) more)) f (length-outlooks 0 old.over more)
            ∙ ap (λ (l : List Tagged). tag old.current e ∷ l) (counted_same segment old new (map flow (joined_all 0 (none_of old.over) more)) counted here (length-outlooks 0 old.over more) (λ i h. used_at 0 i old.over more h));
      }

-- ---- the row

-- where it holds of one that is open
standing : (l : Taking) (v : View) → l.live ≡ true → port_state l v → (v ≡ view_of l) × Sound l
standing l v h r = subst (λ b. port_state_by b l v) h r

is_standing : (l : Taking) (v : View) → l.live ≡ true → v ≡ view_of l → Sound l → port_state l v
is_standing l v h is s = subst (λ b. port_state_by b l v) (sym h) (is, s)

is_closed : (l : Taking) (v : View) → l.live ≡ false → FanClosed v → port_state l v
is_closed l v h r = subst (λ b. port_state_by b l v) (sym h) r

-- what a call finds
pub record Found (call : Call) (l : Taking) : Type 0 where
  pub may : CallAllowed call (view_of l)
  pub sound : Sound l

pub found : (call : Call) (l : Taking) → l.live ≡ true → Meets call (port_state l) → Found call l
found call l h m =
    let s = standing l m.0 h m.1.1 in
    record { may = subst (λ v. CallAllowed call v) s.0 m.1.0; sound = s.1 }

-- the actions, at what the stage knows as the call comes
pub record AtView (call : Call) (old new : Taking) (acts : List Act) : Type 0 where
  pub allowed : ActsAllowed (seen call (view_of old)) acts
  pub row_then : port_state new (acted_all (seen call (view_of old)) acts)

obeys : (call : Call) (old new : Taking) (acts : List Act) → old.live ≡ true → (CallAllowed call (view_of old) → Sound old → AtView call old new acts) → Obeys call (port_state old) (port_state new) acts
obeys call old new acts h at = record {
  allowed = λ v may r.
      let s = standing old v h r in
      let a = at (subst (λ w. CallAllowed call w) s.0 may) s.1 in
      subst (λ w. ActsAllowed (seen call w) acts) (sym s.0) a.allowed;
  ports = λ v may r.
      let s = standing old v h r in
      let a = at (subst (λ w. CallAllowed call w) s.0 may) s.1 in
      subst (λ w. port_state new (acted_all (seen call w) acts)) (sym s.0) a.row_then;
}

-- both that a handler owes
pub record Handled (call : Call) (old : Taking) (acts : List Act) (new : Taking) : Type 0 where
  pub ports : Obeys call (port_state old) (port_state new) acts
  pub gives : Turned call old acts new

-- ---- the handlers

pub started : (l : Taking) → l.live ≡ true → Handled starts l [] l
started l h = record {
  ports = obeys starts l l [] h (λ may sound. record { allowed = tt; row_then = is_standing l (view_of l) h refl sound });
  gives = record { turn = rw h (quiet_turn l.segment (place_of l) l.over); segment = refl; inputs = refl; stands = tt };
}

pub asked_here : (old new : Taking) (acts : List Act) → old.live ≡ true → Does new acts (record old { asked = true }) (Pull old.current ∷ []) → Handled (pulls 0) old acts new
asked_here old new acts h does = rw (does.to_is, does.acts_are) (record {
  ports = obeys (pulls 0) old (record old { asked = true }) (Pull old.current ∷ []) h (λ may sound.
      let off : old.asked ≡ false = unasked_wish old.asked may in
      let at : in_at (seen (pulls 0) (view_of old)) old.current ≡ inlet.Idle = rw off (idle_seat 0 old.current old.current old.over sound.here) in
      let ins : slice_set (seats 0 old.over old.current old.asked) old.current inlet.Pulled ≡ seats 0 old.over old.current true = marked_now old.current old.over old.asked true sound.here in
      record {
        allowed = (at, tt);
        row_then = is_standing (record old { asked = true }) (acted_all (seen (pulls 0) (view_of old)) (Pull old.current ∷ [])) h (ap (λ (xs : List InView). record { ins = xs; outs = Available ∷ [] }) ins) (record { here = sound.here; order = sound.order; few = sound.few; linked = sound.linked });
      });
  gives = record { turn = rw h (quiet_turn old.segment (place_of old) old.over); segment = refl; inputs = refl; stands = (tt, tt) };
})

-- the current input stays open
counted_here : (segment : Option ℕ) (old new : Taking) → Counted segment old new → slice_get old.over old.current ≡ Some false → slice_get old.over new.current ≡ Some false
counted_here None old new h here = let e = h.0 in rw e here
counted_here (Some k) old new (inl h) here = by_next h.1.1
  where
    by_next : IsNext old.over old.current new.current ⊎ (AllOverBut old.current old.over × (new.current ≡ old.current)) → slice_get old.over new.current ≡ Some false
    by_next (inl n) = n.here
    by_next (inr s) = let e = s.1 in rw e here
counted_here (Some k) old new (inr h) here = let e = h.1.1 in rw e here

counted_order : (segment : Option ℕ) (old new : Taking) → Counted segment old new → InOrder segment old.over old.current → InOrder segment old.over new.current
counted_order None old new h order = let e = h.0 in rw e order
counted_order (Some k) old new h order = tt

passed_on : (old new : Taking) (e : Tree) → old.live ≡ true → Sound old → old.asked ≡ true → Counted old.segment old new
    → Handled (arrives old.current (item.Elem e)) old (Push 0 e ∷ []) (record old { current = new.current; left = new.left; asked = false })
passed_on old new e h sound on counted =
    let to : Taking = record old { current = new.current; left = new.left; asked = false } in
    let ins : slice_set (seats 0 old.over old.current old.asked) old.current inlet.Idle ≡ seats 0 old.over new.current false =
    marked_now old.current old.over old.asked false sound.here ∙ unmarked 0 old.current new.current old.over in
    record {
      ports = obeys (arrives old.current (item.Elem e)) old to (Push 0 e ∷ []) h (λ may s. record {
        allowed = (ap wish on, tt);
        row_then = is_standing to (acted_all (seen (arrives old.current (item.Elem e)) (view_of old)) (Push 0 e ∷ [])) h (ap (λ (xs : List InView). record { ins = xs; outs = Unpulled ∷ [] }) ins)
            (record { here = counted_here old.segment old new counted sound.here; order = counted_order old.segment old new counted sound.order; few = sound.few; linked = sound.linked });
      });
      gives = record { turn = rw h (element_turn old.segment old new e sound.here counted); segment = refl; inputs = refl; stands = tt };
    }

pub passed : (old new : Taking) (acts : List Act) (port : ℕ) (e : Tree) → old.live ≡ true → Meets (arrives port (item.Elem e)) (port_state old) → Passed old e new acts → Handled (arrives port (item.Elem e)) old acts new
passed old new acts port e h m p =
    let f = found (arrives port (item.Elem e)) old h m in
    let w = waits_current 0 old.current port old.over old.asked f.may in
    let is : port ≡ old.current = omega (arith, w.0) in
    subst (λ n. Handled (arrives n (item.Elem e)) old acts new) (sym is)
    (subst (λ (l : List Act). Handled (arrives old.current (item.Elem e)) old l new) (sym p.acts_are)
    (subst (λ (x : Taking). Handled (arrives old.current (item.Elem e)) old (Push 0 e ∷ []) x) (sym p.to_is) (passed_on old new e h f.sound w.1 p.counted)))

-- ---- an end

-- a port at which an end may come is open
pub port_open : (l : Taking) (port : ℕ) (b : Item) → l.live ≡ true → (CallAllowed (arrives port b) (view_of l) → IsInOpen (in_at (view_of l) port)) → Meets (arrives port b) (port_state l) → slice_get l.over port ≡ Some false
port_open l port b h opens m = open_seat 0 l.current port l.over l.asked (opens (found (arrives port b) l h m).may)

apart : (i c : ℕ) → (i < c) ⊎ ((i ≡ c) ⊎ (c < i))
apart zero zero = inr (inl refl)
apart zero (suc c) = inl (omega arith)
apart (suc i) zero = inr (inr (omega arith))
apart (suc i) (suc c) = by_rest i c (apart i c)
  where
    by_rest : (i c : ℕ) → (i < c) ⊎ ((i ≡ c) ⊎ (c < i)) → (suc i < suc c) ⊎ ((suc i ≡ suc c) ⊎ (suc c < suc i))
    by_rest i c (inl h) = inl (omega (arith, h))
    by_rest i c (inr (inl h)) = inr (inl (ap suc h))
    by_rest i c (inr (inr h)) = inr (inr (omega (arith, h)))

pub port_there : (l : Taking) (port : ℕ) (b : Item) → l.live ≡ true → (CallAllowed (arrives port b) (view_of l) → IsInOpen (in_at (view_of l) port)) → Meets (arrives port b) (port_state l) → port < length l.over
port_there l port b h opens m = slice_get_within l.over port false (port_open l port b h opens m)

module _ (old : Taking) (port : ℕ) (h : old.live ≡ true) (sound : Sound old) (open_port : slice_get old.over port ≡ Some false) where
  abbrev over : List Bool
  over = slice_set old.over port true

  waited_ends : joined_all 0 (none_of old.over) (coming (arrives port item.Ended)) ≡ none_of over
  waited_ends = let z : 0 + port ≡ port = omega arith in let r = came_end 0 port old.over open_port in rw z at r

  linked_then : HasFollowers over (relinked port old.next)
  linked_then = relinks old.over port (slice_get_within old.over port false open_port) old.next sound.linked

  few_then : length over ≤ MAX_FAN
  few_then = let l = length-set old.over port true in let k = sound.few in omega (arith, l, k)

  order_kept : (segment : Option ℕ) (c : ℕ) → InOrder segment old.over c → InOrder segment over c
  order_kept None c o = λ i m n. set_keeps old.over port i (o i m n)
  order_kept (Some k) c o = tt

  another_ends : (port ≡ old.current → ⊥) → Handled (arrives port item.Ended) old [] (without port old)
  another_ends n = record {
    ports = obeys (arrives port item.Ended) old (without port old) [] h (λ may s. record {
      allowed = tt;
      row_then = is_standing (without port old) (seen (arrives port item.Ended) (view_of old)) h (ap (λ (xs : List InView). record { ins = xs; outs = wish old.asked ∷ [] }) (ended_seat 0 old.current port old.over old.asked))
          (record { here = set_other old.over port old.current n ∙ sound.here; order = order_kept old.segment old.current sound.order; few = few_then; linked = linked_then });
    });
    gives = record { turn = rw h (moved_turn old.segment (place_of old) (place_of old) over (joined_all 0 (none_of old.over) (coming (arrives port item.Ended))) waited_ends (λ more. refl)); segment = refl; inputs = length-set old.over port true; stands = tt };
  }

  module _ (here : port ≡ old.current) where
    gone : slice_get over old.current ≡ Some true
    gone = rw (← here) (set_here old.over port false open_port)

    order_next : (segment : Option ℕ) (d : ℕ) → InOrder segment old.over old.current → IsNext over old.current d → InOrder segment over d
    order_next None d o n = by_place n.between
      where
        by_place : ((old.current < d) × OverBetween over (old.current + 1) d) ⊎ ((d ≤ old.current) × (OverBetween over (old.current + 1) (length over) × OverBetween over 0 d)) → OverBetween over 0 d
        by_place (inl p) = λ i l k. by_number i k (apart i old.current)
          where
            by_number : (i : ℕ) → i < d → (i < old.current) ⊎ ((i ≡ old.current) ⊎ (old.current < i)) → slice_get over i ≡ Some true
            by_number i k (inl l) = set_keeps old.over port i (o i (omega arith) l)
            by_number i k (inr (inl e)) = rw e gone
            by_number i k (inr (inr l)) = p.1 i (omega (arith, l)) k
        by_place (inr p) = p.1.1
    order_next (Some k) d o n = tt

    seats_then : slice_set (seats 0 old.over old.current old.asked) port inlet.Finished ≡ seats 0 over old.current old.asked
    seats_then = ended_seat 0 old.current port old.over old.asked

    -- the next open input is current, and is asked where the output is
    next_row : (d : ℕ) (b : Bool) → old.asked ≡ b → IsNext over old.current d → AtView (arrives port item.Ended) old (record (without port old) { current = d; left = fresh_left old.segment }) (if b then Pull d ∷ [] else [])
    next_row d true e n =
        let unasked : slice_set (seats 0 old.over old.current old.asked) port inlet.Finished ≡ seats 0 over d false = seats_then ∙ over_now old.current d over old.asked gone in
        let at : in_at (seen (arrives port item.Ended) (view_of old)) d ≡ inlet.Idle = ap (λ (xs : List InView). slice_index_or xs d inlet.Cancelled) unasked ∙ idle_seat 0 d d over n.here in
        let ins : slice_set (slice_set (seats 0 old.over old.current old.asked) port inlet.Finished) d inlet.Pulled ≡ seats 0 over d old.asked =
        ap (λ (xs : List InView). slice_set xs d inlet.Pulled) unasked ∙ marked_now d over false true n.here ∙ ap (λ b. seats 0 over d b) (sym e) in
        record {
          allowed = (at, tt);
          row_then = is_standing (record (without port old) { current = d; left = fresh_left old.segment }) (acted_all (seen (arrives port item.Ended) (view_of old)) (Pull d ∷ [])) h (ap (λ (xs : List InView). record { ins = xs; outs = wish old.asked ∷ [] }) ins)
              (record { here = n.here; order = order_next old.segment d sound.order n; few = few_then; linked = linked_then });
        }
    next_row d false e n =
        let ins : slice_set (seats 0 old.over old.current old.asked) port inlet.Finished ≡ seats 0 over d old.asked = seats_then ∙ over_now old.current d over old.asked gone ∙ ap (λ b. seats 0 over d b) (sym e) in
        record {
          allowed = tt;
          row_then = is_standing (record (without port old) { current = d; left = fresh_left old.segment }) (seen (arrives port item.Ended) (view_of old)) h (ap (λ (xs : List InView). record { ins = xs; outs = wish old.asked ∷ [] }) ins)
              (record { here = n.here; order = order_next old.segment d sound.order n; few = few_then; linked = linked_then });
        }

    nothing_given : (b : Bool) (d : ℕ) → given_on 0 (if b then Pull d ∷ [] else []) ≡ []
    nothing_given true d = refl
    nothing_given false d = refl

    pull_stands : (b : Bool) (d : ℕ) → PullsStand (if b then Pull d ∷ [] else [])
    pull_stands true d = (tt, tt)
    pull_stands false d = tt

    next_turn : (d : ℕ) → IsNext over old.current d → FanTurn (taking_by old.segment) (place_of old) (joined_all 0 (none_of old.over) (coming (arrives port item.Ended))) [] (record { current = d; left = fresh_left old.segment }) (none_of over)
    next_turn d n = moved_turn old.segment (place_of old) (record { current = d; left = fresh_left old.segment }) over (joined_all 0 (none_of old.over) (coming (arrives port item.Ended))) waited_ends
        (λ more. passed_same old.segment over old.current d old.left (map flow (joined_all 0 (none_of over) more)) n (order_kept old.segment old.current sound.order) gone (length-outlooks 0 over more) (λ i x. used_at 0 i over more x))

    next_ends : (d : ℕ) → IsNext over old.current d → Handled (arrives port item.Ended) old (if old.asked then Pull d ∷ [] else []) (record (without port old) { current = d; left = fresh_left old.segment })
    next_ends d n = record {
      ports = obeys (arrives port item.Ended) old (record (without port old) { current = d; left = fresh_left old.segment }) (if old.asked then Pull d ∷ [] else []) h (λ may s. next_row d old.asked refl n);
      gives = record { turn = rw (h, nothing_given old.asked d) (next_turn d n); segment = refl; inputs = length-set old.over port true; stands = pull_stands old.asked d };
    }

    all_gone : AllOverBut old.current over → (i : ℕ) → i < length over → slice_get over i ≡ Some true
    all_gone all i l = by_number i l (apart i old.current)
      where
        by_number : (i : ℕ) → i < length over → (i < old.current) ⊎ ((i ≡ old.current) ⊎ (old.current < i)) → slice_get over i ≡ Some true
        by_number i l (inl k) = all i l (λ e. absurd (omega (arith, k, e)))
        by_number i l (inr (inl e)) = rw e gone
        by_number i l (inr (inr k)) = all i l (λ e. absurd (omega (arith, k, e)))

    -- none is open
    last_ends : AllOverBut old.current over → Handled (arrives port item.Ended) old (Complete 0 ∷ []) (record (without port old) { live = false })
    last_ends all =
        let none : fan_gives (taking_by old.segment) (place_of old) (none_of over) ≡ [] = none_given old.segment (place_of old) (map flow (none_of over)) (none_waits over) in
        let close : FanClose (taking_by old.segment) (place_of old) (none_of over) (item.Ended ∷ []) = completes (all_ended over (all_gone all)) (ap (λ (l : List Tagged). told (untagged l) ended) (sym none)) in
        record {
          ports = obeys (arrives port item.Ended) old (record (without port old) { live = false }) (Complete 0 ∷ []) h (λ may s. record {
            allowed = (open_wish old.asked, tt);
            row_then = (subst (λ (xs : List InView). InsClosed xs) (sym seats_then) (all_over_closed 0 old.current over old.asked (all_gone all)), tt);
          });
          gives = record { turn = rw (h, waited_ends) close; segment = refl; inputs = length-set old.over port true; stands = tt };
        }

    went : (new : Taking) (acts : List Act) → WentOn (without port old) new acts → Handled (arrives port item.Ended) old acts new
    went new acts (goes_on n to_is acts_are) =
        subst (λ (l : List Act). Handled (arrives port item.Ended) old l new) (sym acts_are)
        (subst (λ (x : Taking). Handled (arrives port item.Ended) old (if old.asked then Pull new.current ∷ [] else []) x) (sym to_is) (next_ends new.current n))
    went new acts (ends all to_is acts_are) =
        subst (λ (l : List Act). Handled (arrives port item.Ended) old l new) (sym acts_are)
        (subst (λ (x : Taking). Handled (arrives port item.Ended) old (Complete 0 ∷ []) x) (sym to_is) (last_ends all))

  finished_by : (new : Taking) (acts : List Act) → InputFinished port old new acts → Handled (arrives port item.Ended) old acts new
  finished_by new acts (another n to_is acts_are) = rw (to_is, acts_are) (another_ends n)
  finished_by new acts (current here w) = went here new acts w

  -- ---- a failure

  failed_here : (c : Cause) → Handled (arrives port (item.Failed c)) old (FailOut 0 c ∷ open_cancels 0 over) (failed_by port old)
  failed_here c =
      let z : 0 + port ≡ port = omega arith in
      let at : slice_get (joined_all 0 (none_of old.over) (coming (arrives port (item.Failed c)))) port ≡ Some (record { list = []; end = failed c }) = (let r = failed_at 0 port c old.over open_port in rw z at r) in
      let few : 0 ≤ (taking_by old.segment).hold = omega arith in
      let given : given_on 0 (FailOut 0 c ∷ open_cancels 0 over) ≡ item.Failed c ∷ [] = ap (λ (l : List Item). item.Failed c ∷ l) (cancels_give 0 over) in
      let close : FanClose (taking_by old.segment) (place_of old) (joined_all 0 (none_of old.over) (coming (arrives port (item.Failed c)))) (item.Failed c ∷ []) = fails port (record { list = []; end = failed c }) c at refl few refl in
      let r = all_cancelled over old.current old.asked (Closed ∷ []) in
      record {
        ports = obeys (arrives port (item.Failed c)) old (failed_by port old) (FailOut 0 c ∷ open_cancels 0 over) h (λ may s. record {
          allowed = (open_wish old.asked, subst (λ (xs : List InView). ActsAllowed (record { ins = xs; outs = Closed ∷ [] }) (open_cancels 0 over)) (sym (ended_seat 0 old.current port old.over old.asked)) r.allowed);
          row_then = subst (λ (xs : List InView). FanClosed (acted_all (record { ins = xs; outs = Closed ∷ [] }) (open_cancels 0 over))) (sym (ended_seat 0 old.current port old.over old.asked)) (r.closed, subst (λ (ys : List OutView). OneClosed ys) (sym r.outs) tt);
        });
        gives = record { turn = rw (h, given) close; segment = refl; inputs = length-set old.over port true; stands = cancels_stand 0 over };
      }

pub finished : (old new : Taking) (acts : List Act) (port : ℕ) → old.live ≡ true → Meets (arrives port item.Ended) (port_state old) → InputFinished port old new acts → Handled (arrives port item.Ended) old acts new
finished old new acts port h m f =
    let s = found (arrives port item.Ended) old h m in
    finished_by old port h s.sound (open_seat 0 old.current port old.over old.asked s.may) new acts f

pub failed_on : (old new : Taking) (acts : List Act) (port : ℕ) (c : Cause) → old.live ≡ true → Meets (arrives port (item.Failed c)) (port_state old)
    → Does new acts (failed_by port old) (FailOut 0 c ∷ open_cancels 0 (slice_set old.over port true)) → Handled (arrives port (item.Failed c)) old acts new
failed_on old new acts port c h m does =
    let s = found (arrives port (item.Failed c)) old h m in
    rw (does.to_is, does.acts_are) (failed_here old port h s.sound (open_seat 0 old.current port old.over old.asked s.may) c)

-- ---- a cancel

pub left_on : (old new : Taking) (acts : List Act) → old.live ≡ true → Does new acts (record old { live = false }) (open_cancels 0 old.over) → Handled (cancels 0) old acts new
left_on old new acts h does =
    let r = all_cancelled old.over old.current old.asked (Cancelled ∷ []) in
    rw (does.to_is, does.acts_are) (record {
      ports = obeys (cancels 0) old (record old { live = false }) (open_cancels 0 old.over) h (λ may s. record {
        allowed = r.allowed;
        row_then = (r.closed, subst (λ (ys : List OutView). OneClosed ys) (sym r.outs) tt);
      });
      gives = record { turn = rw h (cancels_give 0 old.over, refl); segment = refl; inputs = refl; stands = cancels_stand 0 old.over };
    })

-- ---- before anything came

first_flag : (k : ℕ) → 2 ≤ k → slice_get (replicate k false) 0 ≡ Some false
first_flag zero h = absurd (omega (arith, h))
first_flag (suc k) h = refl

no_order : (segment : Option ℕ) (over : List Bool) → InOrder segment over 0
no_order None over = λ i l k. absurd (omega (arith, k))
no_order (Some s) over = tt

-- every input of a new one is idle
seats_idle : (k n c : ℕ) → seats n (replicate k false) c false ≡ replicate k inlet.Idle
seats_idle zero n c = refl
seats_idle (suc k) n c = by_mark (n == c) (seats_idle k (n + 1) c)
  where
    by_mark : (b : Bool) → seats (n + 1) (replicate k false) c false ≡ replicate k inlet.Idle → seat false b false ∷ seats (n + 1) (replicate k false) c false ≡ inlet.Idle ∷ replicate k inlet.Idle
    by_mark true e = ap (λ (xs : List InView). inlet.Idle ∷ xs) e
    by_mark false e = ap (λ (xs : List InView). inlet.Idle ∷ xs) e

-- the row of a new one
pub new_row : (inputs : ℕ) (segment : Option ℕ) (l : Taking) → 2 ≤ inputs → inputs ≤ MAX_FAN → Begins inputs segment l → port_state l (record { ins = replicate inputs inlet.Idle; outs = Unpulled ∷ [] })
new_row inputs segment l two few b =
    let ins : seats 0 l.over l.current l.asked ≡ replicate inputs inlet.Idle = ap (λ o. seats 0 o l.current l.asked) b.over ∙ ap (λ c. seats 0 (replicate inputs false) c l.asked) b.current ∙ ap (λ a. seats 0 (replicate inputs false) 0 a) b.unasked
    ∙ seats_idle inputs 0 0 in
    let here : slice_get l.over l.current ≡ Some false = ap (λ o. slice_get o l.current) b.over ∙ ap (λ c. slice_get (replicate inputs false) c) b.current ∙ first_flag inputs two in
    let long : length l.over ≡ inputs = ap length b.over ∙ length-replicate inputs false in
    let c : l.current ≡ 0 = b.current in
    let is : view_of l ≡ record { ins = replicate inputs inlet.Idle; outs = Unpulled ∷ [] } = ap (λ (xs : List InView). record { ins = xs; outs = wish l.asked ∷ [] }) ins ∙ ap (λ a. record { ins = replicate inputs inlet.Idle; outs = wish a ∷ [] }) b.unasked in
    is_standing l (record { ins = replicate inputs inlet.Idle; outs = Unpulled ∷ [] }) b.live (sym is) (record { here = here; order = rw c (no_order l.segment l.over); few = omega (arith, long, few); linked = subst (λ o. HasFollowers o l.next) (sym b.over) (ring_linked inputs l.next b.ring) })
