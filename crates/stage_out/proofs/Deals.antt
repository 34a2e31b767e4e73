-- What the handlers of a partition do keeps its row, and is a turn at each output.
use Rattle.std.specs.Prelude.{◌==◌, ◌-◌, if◌then◌else◌, slice_get, slice_set, slice_index_or, Option, Ok, Err}
use Rattle.std.proofs.Common.{◌≡◌, ◌≢◌, ℕ, zero, suc, ◌+◌, ◌≤◌, ◌<◌, ◌⊎◌, inl, inr, Bool, true, false, List, [], ◌∷◌, ◌++◌, length, map, refl, sym, ap, ◌∙◌, subst, arith, Some, None}
use Rattle.std.proofs.lemmas.Bool.Decides.{nat_tests}
use Rattle.std.proofs.lemmas.List.{length-set}
use Rattle.std.proofs.lemmas.Option.{slice_get_within}
use Rattle.elem_core.specs.Tree.{Tree}
use Rattle.elem_core.specs.Values.{map_value, part_of}
use Rattle.elem_core.specs.declared.why.Cause.{Cause}
use Rattle.elem_core.specs.declared.why.Why.{Why}
use Rattle.elem_core.specs.declared.item.Item.{Item}
use Rattle.elem_core.specs.declared.item.Item.TheVariants as item
use Rattle.port_core.specs.declared.act.Act.{Act}
use Rattle.port_core.specs.declared.act.Act.TheVariants.{Pull, Push, Complete, FailOut, Cancel}
use Rattle.port_core.specs.declared.view.InView.{InView}
use Rattle.port_core.specs.declared.view.InView.TheVariants as inlet
use Rattle.port_core.specs.declared.view.OutView.{OutView}
use Rattle.port_core.specs.declared.view.OutView.TheVariants.{Unpulled, Available, Closed, Cancelled}
use Rattle.port_core.specs.View.{View, in_at, IsInOpen, IsOutOpen, ActsAllowed, acted_all}
use Rattle.port_core.specs.Asking.{PullsStand}
use Rattle.port_core.specs.Call.{Call, starts, pulls, arrives, cancels, CallAllowed, seen, Obeys, Meets, given_on}
use Rattle.stream_model.specs.Machine.{going, done}
use Rattle.stream_model.specs.Linear.{Book}
use Rattle.stream_model.specs.declared.kind.TheConstants.{MAX_FAN}
use Rattle.stage_core.specs.Held.{shut}
use Rattle.stage_core.specs.Turn.{TurnAt}
use Rattle.stage_core.specs.Outs.{TurnsAt}
use Rattle.stage_core.specs.declared.outs.OutputState.{OutputState}
use Rattle.stage_core.specs.declared.outs.OutputState.TheVariants.{Quiet, Asks, Gone}
use Rattle.stage_core.specs.OpenOuts.{want_view, open_count, at_open, AllClosed, OutsClosed, asks_count}
use Rattle.stage_out.specs.PartitionStates.{PartitionLogic, input_of, view_of, Holding, Sound, port_state_by, port_state, held_for, stage_of, state_of, due_of, held_of, dealers, dues, Turned, Parts, pull_by, waits_by, EndedFor, ends_now, ends_later, with_asks, Noted, pulls_input, rests, AskedOf, gets, notes, moved_on, moving_acts, Dealt, given, keeps, drops, with_given, Served, dealt, blamed, blaming, struck, less_by, PassedOver, dropped, kept_on, Lost, last, others}
use Rattle.stage_core.proofs.OutViews.{want_set, is_quiet, is_open, gone_views, after_one, shut_views}
use Rattle.stage_out.proofs.Wants.{same, other, quiet_lost, asked_lost, Acted, given_one, acts_from, all_open}
use Rattle.stage_out.proofs.Dues.{get_of, same_get, set_at, pull_given, open_given, mach, turns_each, is_gone, still, gone_here, out_here, last_here, ends_asked, ends_lost, deal_given, deal_kept, deal_other, deal_blamed, end_now, end_later, fail_now}

-- ---- the row

standing : (l : PartitionLogic) (v : View) → l.live ≡ true → port_state l v → (v ≡ view_of l) × Sound l
standing l v h r = subst (λ b. port_state_by b l v) h r

is_standing : (l : PartitionLogic) (v : View) → l.live ≡ true → v ≡ view_of l → Sound l → port_state l v
is_standing l v h is s = subst (λ b. port_state_by b l v) (sym h) (is, s)

-- what a call finds
pub record Found (call : Call) (l : PartitionLogic) : Type 0 where
  pub may : CallAllowed call (view_of l)
  pub sound : Sound l

pub found : (call : Call) (l : PartitionLogic) → l.live ≡ true → Meets call (port_state l) → Found call l
found call l h m =
    let s = standing l m.0 h m.1.1 in
    record { may = subst (λ v. CallAllowed call v) s.0 m.1.0; sound = s.1 }

pub record AtView (call : Call) (old new : PartitionLogic) (acts : List Act) : Type 0 where
  pub allowed : ActsAllowed (seen call (view_of old)) acts
  pub row_then : port_state new (acted_all (seen call (view_of old)) acts)

pub obeys : (call : Call) (old new : PartitionLogic) (acts : List Act) → old.live ≡ true → AtView call old new acts → Obeys call (port_state old) (port_state new) acts
obeys call old new acts h a = record {
  allowed = λ v may r.
      let s = standing old v h r in
      subst (λ w. ActsAllowed (seen call w) acts) (sym s.0) a.allowed;
  ports = λ v may r.
      let s = standing old v h r in
      subst (λ w. port_state new (acted_all (seen call w) acts)) (sym s.0) a.row_then;
}

pub record Handled (call : Call) (old : PartitionLogic) (acts : List Act) (new : PartitionLogic) : Type 0 where
  pub ports : Obeys call (port_state old) (port_state new) acts
  pub gives : Turned call old acts new

pub started : (l : PartitionLogic) → l.live ≡ true → Meets starts (port_state l) → Handled starts l [] l
started l h m = record {
  ports = obeys starts l l [] h (record { allowed = tt; row_then = is_standing l (view_of l) h refl (found starts l h m).sound });
  gives = record { turns = λ book. rw h (turns_each book l starts [] (held_of l) (held_of l) l.outs l.outs 0 refl (λ i m w v e p q. still (mach book l m) m starts (held_for m l.to l.held) (state_of l.over (stage_of l m)) w v tt (ap is_gone (same_get l.outs i w v p q)))); node = refl; parts = refl; fun = refl; outputs = refl; stands = tt };
}

-- ---- an end

in_zero : (o w : Bool) (i : ℕ) → IsInOpen (in_at (record { ins = input_of o w ∷ []; outs = [] }) i) → (i ≡ 0) × (o ≡ false)
in_zero true w zero h = absurd h
in_zero false w zero h = (refl, refl)
in_zero o w (suc i) h = absurd h

complete_given : (outs : List OutputState) → Acted (record { ins = inlet.Finished ∷ []; outs = map want_view outs }) (at_open (λ j. Complete j) 0 outs) (map (after_one Closed) outs)
complete_given outs = acts_from (λ j. Complete j) Closed IsOutOpen (λ v n p. p) (λ v n. refl) (λ n acts s. s) (inlet.Finished ∷ []) outs 0 [] refl (all_open outs)

fail_given : (c : Cause) (ins : List InView) (outs : List OutputState) → Acted (record { ins = ins; outs = map want_view outs }) (at_open (λ j. FailOut j c) 0 outs) (map (after_one Closed) outs)
fail_given c ins outs = acts_from (λ j. FailOut j c) Closed IsOutOpen (λ v n p. p) (λ v n. refl) (λ n acts s. s) ins outs 0 [] refl (all_open outs)

abbrev shut_l : PartitionLogic → PartitionLogic
shut_l old = record old { live = false }

fails_zero : (old : PartitionLogic) (c : Cause) → old.live ≡ true → old.over ≡ false → Handled (arrives 0 (item.Failed c)) old (at_open (λ j. FailOut j c) 0 old.outs) (shut_l old)
fails_zero old c h o =
    let a = fail_given c (inlet.Finished ∷ []) old.outs in
    record {
      ports = obeys (arrives 0 (item.Failed c)) old (shut_l old) (at_open (λ j. FailOut j c) 0 old.outs) h (record {
        allowed = a.allowed;
        row_then = subst (λ (v : View). AllClosed v) (sym a.then_is) (tt, shut_views old.outs);
      });
      gives = record {
        turns = λ book. turns_each book old (arrives 0 (item.Failed c)) (at_open (λ j. FailOut j c) 0 old.outs) (held_of old) (λ m v. shut) old.outs old.outs 0 refl (λ i m w v e p q.
            let g = open_given (λ j. FailOut j c) (λ j. item.Failed c) (λ k n. refl) old.outs 0 i m w e p in
            rw (g, o) (fail_now book old.parts old.fun old.node old.taken m (held_for m old.to old.held) c w));
        node = refl;
        parts = refl;
        fun = refl;
        outputs = refl;
        stands = a.stands;
      };
    }

pub failed_on : (old new : PartitionLogic) (acts : List Act) (i : ℕ) (c : Cause) → old.live ≡ true → Meets (arrives i (item.Failed c)) (port_state old) → Parts new acts (shut_l old) (at_open (λ j. FailOut j c) 0 old.outs) → Handled (arrives i (item.Failed c)) old acts new
failed_on old new acts i c h m d =
    let f = found (arrives i (item.Failed c)) old h m in
    let p = in_zero old.over old.waits i f.may in
    rw (d.to_is, d.acts_are) (subst (λ n. Handled (arrives n (item.Failed c)) old (at_open (λ j. FailOut j c) 0 old.outs) (shut_l old)) (sym p.0) (fails_zero old c h p.1))

none_kept : (m to : ℕ) (h : Option Tree) → h ≡ None → held_for m to h ≡ []
none_kept m to h e = rw e refl

ends_zero : (old : PartitionLogic) → old.live ≡ true → old.over ≡ false → old.held ≡ None → Handled (arrives 0 item.Ended) old (at_open (λ j. Complete j) 0 old.outs) (shut_l old)
ends_zero old h o n =
    let a = complete_given old.outs in
    record {
      ports = obeys (arrives 0 item.Ended) old (shut_l old) (at_open (λ j. Complete j) 0 old.outs) h (record {
        allowed = a.allowed;
        row_then = subst (λ (v : View). AllClosed v) (sym a.then_is) (tt, shut_views old.outs);
      });
      gives = record {
        turns = λ book. turns_each book old (arrives 0 item.Ended) (at_open (λ j. Complete j) 0 old.outs) (held_of old) (λ m v. shut) old.outs old.outs 0 refl (λ i m w v e p q.
            let g = open_given (λ j. Complete j) (λ j. item.Ended) (λ k n. refl) old.outs 0 i m w e p in
            rw (g, o, n) (end_now book old.parts old.fun old.node old.taken m w));
        node = refl;
        parts = refl;
        fun = refl;
        outputs = refl;
        stands = a.stands;
      };
    }

-- it is asked where some output asks
waits_some : (q : ℕ) → waits_by q ≡ true → 1 ≤ q
waits_some zero e = cc
waits_some (suc q) e = omega arith

open_le : (ws : List OutputState) → open_count ws ≤ length ws
open_le [] = omega arith
open_le (Quiet ∷ ws) = let r = open_le ws in omega (arith, r)
open_le (Asks ∷ ws) = let r = open_le ws in omega (arith, r)
open_le (Gone ∷ ws) = let r = open_le ws in omega (arith, r)

-- the counts and what is held do not change but that the input has ended
over_sound : (old : PartitionLogic) → Sound old → old.held ≢ None → Sound (record old { over = true })
over_sound old s n = record { asking_is = s.asking_is; open_is = s.open_is; some = s.some; parts = s.parts; few = s.few; holds = by_held old.held n s.holds; wants = s.wants }
  where
    by_held : (h : Option Tree) → h ≢ None → Holding h old → Holding h (record old { over = true })
    by_held None k x = absurd (k refl)
    by_held (Some t) k x = x

waits_zero : (old : PartitionLogic) → old.live ≡ true → old.over ≡ false → Sound old → old.held ≢ None → Handled (arrives 0 item.Ended) old [] (record old { over = true })
waits_zero old h o s n = record {
  ports = obeys (arrives 0 item.Ended) old (record old { over = true }) [] h (record { allowed = tt; row_then = is_standing (record old { over = true }) (seen (arrives 0 item.Ended) (view_of old)) h refl (over_sound old s n) });
  gives = record {
    turns = λ book. rw h (turns_each book old (arrives 0 item.Ended) [] (held_of old) (held_of (record old { over = true })) old.outs old.outs 0 refl (λ i m w v e p q.
        let x : w ≡ v = same_get old.outs i w v p q in
        subst (λ (y : OutputState). TurnAt (mach book old m) m (arrives 0 item.Ended) (held_of old m w) [] (held_of (record old { over = true }) m y)) x (rw o (end_later book old.parts old.fun old.node old.taken m (held_for m old.to old.held) w))));
    node = refl;
    parts = refl;
    fun = refl;
    outputs = refl;
    stands = tt;
  };
}

pub finished : (old new : PartitionLogic) (acts : List Act) (i : ℕ) → old.live ≡ true → Meets (arrives i item.Ended) (port_state old) → EndedFor old new acts → Handled (arrives i item.Ended) old acts new
finished old new acts i h m (ends_now n to_is acts_are) =
    let f = found (arrives i item.Ended) old h m in
    let p = in_zero old.over old.waits i f.may in
    rw (to_is, acts_are) (subst (λ k. Handled (arrives k item.Ended) old (at_open (λ j. Complete j) 0 old.outs) (shut_l old)) (sym p.0) (ends_zero old h p.1 n))
finished old new acts i h m (ends_later n to_is acts_are) =
    let f = found (arrives i item.Ended) old h m in
    let p = in_zero old.over old.waits i f.may in
    rw (to_is, acts_are) (subst (λ k. Handled (arrives k item.Ended) old [] (record old { over = true })) (sym p.0) (waits_zero old h p.1 f.sound n))

-- ---- counts

pub asks_le : (ws : List OutputState) → asks_count ws ≤ length ws
asks_le [] = omega arith
asks_le (Quiet ∷ ws) = let r = asks_le ws in omega (arith, r)
asks_le (Asks ∷ ws) = let r = asks_le ws in omega (arith, r)
asks_le (Gone ∷ ws) = let r = asks_le ws in omega (arith, r)

pub asks_some : (ws : List OutputState) (j : ℕ) → slice_index_or ws j Gone ≡ Asks → 1 ≤ asks_count ws
asks_some [] j h = cc
asks_some (Quiet ∷ ws) zero h = cc
asks_some (Asks ∷ ws) zero h = omega arith
asks_some (Gone ∷ ws) zero h = cc
asks_some (Quiet ∷ ws) (suc j) h = asks_some ws j h
asks_some (Asks ∷ ws) (suc j) h = omega arith
asks_some (Gone ∷ ws) (suc j) h = asks_some ws j h

asks_set : (ws : List OutputState) (j : ℕ) → slice_get ws j ≡ Some Quiet → (asks_count (slice_set ws j Asks) ≡ suc (asks_count ws)) × (open_count (slice_set ws j Asks) ≡ open_count ws)
asks_set [] j h = cc
asks_set (Quiet ∷ ws) zero h = (refl, refl)
asks_set (Asks ∷ ws) zero h = cc
asks_set (Gone ∷ ws) zero h = cc
asks_set (Quiet ∷ ws) (suc j) h = let r = asks_set ws j h in (r.0, ap suc r.1)
asks_set (Asks ∷ ws) (suc j) h = let r = asks_set ws j h in (ap suc r.0, ap suc r.1)
asks_set (Gone ∷ ws) (suc j) h = asks_set ws j h

get_other : (ws : List OutputState) (j i : ℕ) (x : OutputState) → j ≢ i → slice_get (slice_set ws j x) i ≡ slice_get ws i
get_other [] j i x n = refl
get_other (y ∷ ws) zero zero x n = absurd (n refl)
get_other (y ∷ ws) zero (suc i) x n = refl
get_other (y ∷ ws) (suc j) zero x n = refl
get_other (y ∷ ws) (suc j) (suc i) x n = get_other ws j i x (λ e. n (ap suc e))

asked_at : (ws : List OutputState) (j : ℕ) → slice_get ws j ≡ Some Quiet → slice_index_or (slice_set (map want_view ws) j Available) j Closed ≡ Available
asked_at [] j h = cc
asked_at (x ∷ ws) zero h = refl
asked_at (x ∷ ws) (suc j) h = asked_at ws j h

back_at : (ws : List OutputState) (j : ℕ) → slice_get ws j ≡ Some Quiet → slice_set (slice_set (map want_view ws) j Available) j Unpulled ≡ map want_view ws
back_at [] j h = cc
back_at (Quiet ∷ ws) zero h = refl
back_at (Asks ∷ ws) zero h = cc
back_at (Gone ∷ ws) zero h = cc
back_at (x ∷ ws) (suc j) h = ap (λ (ys : List OutView). want_view x ∷ ys) (back_at ws j h)

pub record Pulled (q : ℕ) (outs : List OutView) : Type 0 where
  pub allowed : ActsAllowed (record { ins = inlet.Idle ∷ []; outs = outs }) (pull_by q)
  pub then_is : acted_all (record { ins = inlet.Idle ∷ []; outs = outs }) (pull_by q) ≡ record { ins = input_of false (waits_by q) ∷ []; outs = outs }
  pub stands : PullsStand (pull_by q)
  pub none : waits_by q ≡ false → q ≡ 0

pulled : (q : ℕ) (outs : List OutView) → Pulled q outs
pulled zero outs = record { allowed = tt; then_is = refl; stands = tt; none = λ e. refl }
pulled (suc q) outs =
    let x : (suc q == 0) ≡ false = other (suc q) 0 (λ e. absurd (omega (arith, e))) in
    record { allowed = rw x (refl, tt); then_is = rw x refl; stands = rw x (tt, tt); none = λ e. absurd (let k : waits_by (suc q) ≡ true = rw x refl in cc) }

held_some : (old : PartitionLogic) (t : Tree) → Sound old → old.held ≡ Some t → (old.waits ≡ false) × (slice_get old.outs old.to ≡ Some Quiet)
held_some old t s e = subst (λ h. Holding h old) e s.holds

held_none : (old : PartitionLogic) → Sound old → old.held ≡ None → (old.over ≡ false) × (old.waits ≡ false → old.asking ≡ 0)
held_none old s e = subst (λ h. Holding h old) e s.holds

-- ---- an output is asked

pub asked_there : (l : PartitionLogic) (j : ℕ) → l.live ≡ true → Meets (pulls j) (port_state l) → (j < length l.outs) × ((length l.outs ≤ MAX_FAN) × (l.asking ≤ MAX_FAN))
asked_there l j h m =
    let f = found (pulls j) l h m in
    let a = asks_le l.outs in let e = f.sound.asking_is in let k = f.sound.few in
    (slice_get_within l.outs j Quiet (is_quiet l.outs j f.may), (f.sound.few, omega (arith, a, e, k)))

module _ (old : PartitionLogic) (j : ℕ) (h : old.live ≡ true) (sound : Sound old) (q : slice_get old.outs j ≡ Some Quiet) where
  abbrev asks_to : Bool → PartitionLogic
  asks_to w = record (with_asks j old) { waits = w }

  asked_sound : (w : Bool) → Holding old.held (asks_to w) → Sound (asks_to w)
  asked_sound w k =
      let r = asks_set old.outs j q in let a = r.0 in let e = sound.asking_is in
      let l = length-set old.outs j Asks in let f = sound.few in
      record { asking_is = omega (arith, a, e); open_is = sound.open_is ∙ sym r.1; some = sound.some; parts = sound.parts; few = omega (arith, l, f); holds = k; wants = λ e. inl (omega arith) }

  noted_turns : (book : Book) (acts : List Act) (w : Bool) → ((m : ℕ) → given_on m acts ≡ []) → TurnsAt 0 (pulls j) (dealers book old (held_of old) 0 old.outs) acts (dues (held_of (asks_to w)) 0 (slice_set old.outs j Asks))
  noted_turns book acts b g = turns_each book old (pulls j) acts (held_of old) (held_of (asks_to b)) old.outs (slice_set old.outs j Asks) 0 (length-set old.outs j Asks) (λ i m w v e p s.
      rw (g m) (still (mach book old m) m (pulls j) (held_for m old.to old.held) (state_of old.over (stage_of old m)) w v tt (alike i w v p (set_at old.outs j i Asks w v p s))))
    where
      alike : (i : ℕ) (w v : OutputState) → slice_get old.outs i ≡ Some w → ((j ≡ i) × (v ≡ Asks)) ⊎ ((j ≢ i) × (v ≡ w)) → is_gone w ≡ is_gone v
      alike i w v p (inl (e, a)) = let x : slice_get old.outs i ≡ Some Quiet = rw (← e) q in let y : w ≡ Quiet = same_get old.outs i w Quiet p x in rw (y, a) refl
      alike i w v p (inr (n, a)) = rw a refl

  noted_pulls : old.held ≡ None → old.waits ≡ false → Handled (pulls j) old (Pull 0 ∷ []) (asks_to true)
  noted_pulls n w =
      let o = (held_none old sound n).0 in
      let before : ◌≡◌ {A = View} (seen (pulls j) (view_of old)) (record { ins = inlet.Idle ∷ []; outs = map want_view (slice_set old.outs j Asks) }) =
      ap (λ (x : InView). record { ins = x ∷ []; outs = slice_set (map want_view old.outs) j Available }) (rw (o, w) refl) ∙ ap (λ (ys : List OutView). record { ins = inlet.Idle ∷ []; outs = ys }) (want_set old.outs j Asks) in
      let after : ◌≡◌ {A = View} (record { ins = inlet.Pulled ∷ []; outs = map want_view (slice_set old.outs j Asks) }) (view_of (asks_to true)) = rw o refl in
      record {
        ports = obeys (pulls j) old (asks_to true) (Pull 0 ∷ []) h (record {
          allowed = subst (λ (v : View). ActsAllowed v (Pull 0 ∷ [])) (sym before) (refl, tt);
          row_then = is_standing (asks_to true) (acted_all (seen (pulls j) (view_of old)) (Pull 0 ∷ [])) h (ap (λ (v : View). acted_all v (Pull 0 ∷ [])) before ∙ after) (asked_sound true (rw n (o, λ e. cc)));
        });
        gives = record { turns = λ book. rw h (noted_turns book (Pull 0 ∷ []) true (λ m. refl)); node = refl; parts = refl; fun = refl; outputs = length-set old.outs j Asks; stands = (tt, tt) };
      }

  noted_rests : (old.to ≡ j → old.held ≡ None) → (old.held ≡ None → old.waits ≡ true) → Handled (pulls j) old [] (with_asks j old)
  noted_rests d r = record {
    ports = obeys (pulls j) old (with_asks j old) [] h (record {
      allowed = tt;
      row_then = is_standing (with_asks j old) (seen (pulls j) (view_of old)) h (ap (λ (ys : List OutView). record { ins = input_of old.over old.waits ∷ []; outs = ys }) (want_set old.outs j Asks)) (asked_sound old.waits (by_held old.held refl));
    });
    gives = record { turns = λ book. rw h (noted_turns book [] old.waits (λ m. refl)); node = refl; parts = refl; fun = refl; outputs = length-set old.outs j Asks; stands = tt };
  }
    where
      by_held : (k : Option Tree) → old.held ≡ k → Holding k (asks_to old.waits)
      by_held None e = let w = r e in ((held_none old sound e).0, λ x. cc)
      by_held (Some t) e = let s = held_some old t sound e in (s.0, get_other old.outs j old.to Asks (λ x. let n = d (sym x) in cc) ∙ s.1)

  by_note : (new : PartitionLogic) (acts : List Act) → (old.to ≡ j → old.held ≡ None) → Noted j old new acts → Handled (pulls j) old acts new
  by_note new acts d (pulls_input n w to_is acts_are) = rw (to_is, acts_are) (noted_pulls n w)
  by_note new acts d (rests r to_is acts_are) = rw (to_is, acts_are) (noted_rests d r)

-- ---- what is held goes out

abbrev completes : ℕ → OutputState → List Item
completes m w = given_one (λ i. Complete i) (λ i. item.Ended) (λ a n. refl) m w

push_given : (j m : ℕ) (b : Bool) (t : Tree) (acts : List Act) → (j == m) ≡ b → given_on m (Push j t ∷ acts) ≡ (if b then item.Elem t ∷ [] else []) ++ given_on m acts
push_given j m b t acts e = rw e refl

kept_is : (old : PartitionLogic) (j m : ℕ) (b : Bool) (t : Tree) → old.to ≡ j → old.held ≡ Some t → (j == m) ≡ b → held_for m old.to old.held ≡ (if b then t ∷ [] else [])
kept_is old j m b t d k e = rw (d, k, e) refl

equal_by : (j m : ℕ) → (j == m) ≡ true → j ≡ m
equal_by j m h = grind (arith, nat_tests)

module _ (old : PartitionLogic) (j : ℕ) (t : Tree) (h : old.live ≡ true) (sound : Sound old) (q : slice_get old.outs j ≡ Some Quiet) (d : old.to ≡ j) (k : old.held ≡ Some t) where
  quiet_there : (i m : ℕ) (w : OutputState) → 0 + i ≡ m → slice_get old.outs i ≡ Some w → (j == m) ≡ true → w ≡ Quiet
  quiet_there i m w e p x = let y = equal_by j m x in let z : j ≡ i = omega (arith, e, y) in same_get old.outs i w Quiet p (rw (← z) q)

  abbrev more_to : PartitionLogic
  more_to = record old { held = None; waits = waits_by old.asking }

  more_sound : old.over ≡ false → Sound more_to
  more_sound o = record { asking_is = sound.asking_is; open_is = sound.open_is; some = sound.some; parts = sound.parts; few = sound.few; holds = (o, (pulled old.asking []).none); wants = λ e. inl (waits_some old.asking e) }

  gets_more : old.over ≡ false → Handled (pulls j) old (Push j t ∷ pull_by old.asking) more_to
  gets_more o =
      let w = (held_some old t sound k).0 in
      let p = pulled old.asking (map want_view old.outs) in
      let first_view : ◌≡◌ {A = View} (record { ins = input_of old.over old.waits ∷ []; outs = slice_set (slice_set (map want_view old.outs) j Available) j Unpulled }) (record { ins = inlet.Idle ∷ []; outs = map want_view old.outs }) =
      ap (λ (x : InView). record { ins = x ∷ []; outs = slice_set (slice_set (map want_view old.outs) j Available) j Unpulled }) (rw (o, w) refl) ∙ ap (λ (ys : List OutView). record { ins = inlet.Idle ∷ []; outs = ys }) (back_at old.outs j q) in
      let after : ◌≡◌ {A = View} (record { ins = input_of false (waits_by old.asking) ∷ []; outs = map want_view old.outs }) (view_of more_to) = rw o refl in
      record {
        ports = obeys (pulls j) old more_to (Push j t ∷ pull_by old.asking) h (record {
          allowed = (asked_at old.outs j q, subst (λ (v : View). ActsAllowed v (pull_by old.asking)) (sym first_view) p.allowed);
          row_then = is_standing more_to (acted_all (seen (pulls j) (view_of old)) (Push j t ∷ pull_by old.asking)) h (ap (λ (v : View). acted_all v (pull_by old.asking)) first_view ∙ p.then_is ∙ after) (more_sound o);
        });
        gives = record {
          turns = λ book. rw h (turns_each book old (pulls j) (Push j t ∷ pull_by old.asking) (held_of old) (held_of more_to) old.outs old.outs 0 refl (λ i m w v e p s.
              let x = same_get old.outs i w v p s in rw (← x) (one book m w (quiet_there i m w e p))));
          node = refl;
          parts = refl;
          fun = refl;
          outputs = refl;
          stands = p.stands;
        };
      }
    where
      by_bool : (book : Book) (m : ℕ) (w : OutputState) (b : Bool) → (j == m) ≡ b → (b ≡ true → w ≡ Quiet) → TurnAt (mach book old m) m (pulls j) (due_of (if b then t ∷ [] else []) (state_of old.over (stage_of old m)) w) ((if b then item.Elem t ∷ [] else []) ++ []) (due_of [] (state_of old.over (stage_of old m)) w)
      by_bool book m w true e f = out_here (mach book old m) m j t (state_of old.over (stage_of old m)) w (f refl)
      by_bool book m w false e f = still (mach book old m) m (pulls j) [] (state_of old.over (stage_of old m)) w w tt refl

      one : (book : Book) (m : ℕ) (w : OutputState) → ((j == m) ≡ true → w ≡ Quiet) → TurnAt (mach book old m) m (pulls j) (held_of old m w) (given_on m (Push j t ∷ pull_by old.asking)) (held_of more_to m w)
      one book m w f =
          let g = kept_is old j m (j == m) t d k refl in
          let u : given_on m (Push j t ∷ pull_by old.asking) ≡ (if j == m then item.Elem t ∷ [] else []) ++ [] = push_given j m (j == m) t (pull_by old.asking) refl ∙ ap (λ (l : List Item). (if j == m then item.Elem t ∷ [] else []) ++ l) (pull_given old.asking m) in
          rw (g, u) (by_bool book m w (j == m) refl f)

  abbrev last_acts : List Act
  last_acts = Push j t ∷ at_open (λ i. Complete i) 0 old.outs

  gets_last : old.over ≡ true → Handled (pulls j) old last_acts (record old { held = None; live = false })
  gets_last o =
      let a = complete_given old.outs in
      let first_view : ◌≡◌ {A = View} (record { ins = input_of old.over old.waits ∷ []; outs = slice_set (slice_set (map want_view old.outs) j Available) j Unpulled }) (record { ins = inlet.Finished ∷ []; outs = map want_view old.outs }) =
      ap (λ (x : InView). record { ins = x ∷ []; outs = slice_set (slice_set (map want_view old.outs) j Available) j Unpulled }) (rw o refl) ∙ ap (λ (ys : List OutView). record { ins = inlet.Finished ∷ []; outs = ys }) (back_at old.outs j q) in
      record {
        ports = obeys (pulls j) old (record old { held = None; live = false }) last_acts h (record {
          allowed = (asked_at old.outs j q, subst (λ (v : View). ActsAllowed v (at_open (λ i. Complete i) 0 old.outs)) (sym first_view) a.allowed);
          row_then = subst (λ (v : View). AllClosed v) (sym (ap (λ (v : View). acted_all v (at_open (λ i. Complete i) 0 old.outs)) first_view ∙ a.then_is)) (tt, shut_views old.outs);
        });
        gives = record {
          turns = λ book. turns_each book old (pulls j) last_acts (held_of old) (λ m v. shut) old.outs old.outs 0 refl (λ i m w v e p s. one book i m w e p);
          node = refl;
          parts = refl;
          fun = refl;
          outputs = refl;
          stands = a.stands;
        };
      }
    where
      by_bool : (book : Book) (m : ℕ) (w : OutputState) (b : Bool) → (j == m) ≡ b → (b ≡ true → w ≡ Quiet) → TurnAt (mach book old m) m (pulls j) (due_of (if b then t ∷ [] else []) done w) ((if b then item.Elem t ∷ [] else []) ++ completes m w) shut
      by_bool book m w true e f = last_here (mach book old m) m j t w (f refl)
      by_bool book m w false e f = ends_asked (mach book old m) m j w

      one : (book : Book) (i m : ℕ) (w : OutputState) → 0 + i ≡ m → slice_get old.outs i ≡ Some w → TurnAt (mach book old m) m (pulls j) (held_of old m w) (given_on m last_acts) shut
      one book i m w e p =
          let g = kept_is old j m (j == m) t d k refl in
          let u : given_on m last_acts ≡ (if j == m then item.Elem t ∷ [] else []) ++ completes m w =
          push_given j m (j == m) t (at_open (λ i. Complete i) 0 old.outs) refl ∙ ap (λ (l : List Item). (if j == m then item.Elem t ∷ [] else []) ++ l) (open_given (λ i. Complete i) (λ i. item.Ended) (λ a n. refl) old.outs 0 i m w e p) in
          rw (g, u, o) (by_bool book m w (j == m) refl (quiet_there i m w e p))

  by_over : (b : Bool) → old.over ≡ b → Handled (pulls j) old (Push j t ∷ moving_acts b (record old { held = None })) (moved_on b (record old { held = None }))
  by_over true o = gets_last o
  by_over false o = gets_more o

pub asked : (old new : PartitionLogic) (acts : List Act) (j : ℕ) → old.live ≡ true → Meets (pulls j) (port_state old) → AskedOf j old new acts → Handled (pulls j) old acts new
asked old new acts j h m (gets t d k to_is acts_are) =
    let f = found (pulls j) old h m in
    rw (to_is, acts_are) (by_over old j t h f.sound (is_quiet old.outs j f.may) d k old.over refl)
asked old new acts j h m (notes d n) =
    let f = found (pulls j) old h m in
    by_note old j h f.sound (is_quiet old.outs j f.may) new acts d n

-- ---- an output is cancelled

there_by : (l : PartitionLogic) (j : ℕ) → (slice_get l.outs j ≡ Some Quiet) ⊎ (slice_get l.outs j ≡ Some Asks) → j < length l.outs
there_by l j (inl q) = slice_get_within l.outs j Quiet q
there_by l j (inr q) = slice_get_within l.outs j Asks q

pub some_asks : (l : PartitionLogic) → Sound l → (p : ℕ) → slice_index_or l.outs p Gone ≡ Asks → 1 ≤ l.asking
some_asks l s p e = let a = asks_some l.outs p e in let k = s.asking_is in omega (arith, a, k)

pub lost_there : (l : PartitionLogic) (j : ℕ) → l.live ≡ true → Meets (cancels j) (port_state l) → (j < length l.outs) × ((length l.outs ≤ MAX_FAN) × ((1 ≤ l.open_outs) × (slice_index_or l.outs j Gone ≡ Asks → 1 ≤ l.asking)))
lost_there l j h m =
    let f = found (cancels j) l h m in
    (there_by l j (is_open l.outs j f.may), (f.sound.few, (f.sound.some, some_asks l f.sound j)))

asks_struck : (ws : List OutputState) (j : ℕ) → less_by (slice_index_or ws j Gone) (asks_count ws) ≡ asks_count (slice_set ws j Gone)
asks_struck [] j = refl
asks_struck (Quiet ∷ ws) zero = refl
asks_struck (Asks ∷ ws) zero = omega arith
asks_struck (Gone ∷ ws) zero = refl
asks_struck (Quiet ∷ ws) (suc j) = asks_struck ws j
asks_struck (Asks ∷ ws) (suc j) = by_want (slice_index_or ws j Gone) (asks_some ws j) (asks_struck ws j)
  where
    by_want : (w : OutputState) → (w ≡ Asks → 1 ≤ asks_count ws) → less_by w (asks_count ws) ≡ asks_count (slice_set ws j Gone) → less_by w (suc (asks_count ws)) ≡ suc (asks_count (slice_set ws j Gone))
    by_want Quiet k e = ap suc e
    by_want Asks k e = let x = k refl in omega (arith, x, e)
    by_want Gone k e = ap suc e
asks_struck (Gone ∷ ws) (suc j) = asks_struck ws j

open_struck : (ws : List OutputState) (j : ℕ) → (slice_get ws j ≡ Some Quiet) ⊎ (slice_get ws j ≡ Some Asks) → open_count ws ≡ suc (open_count (slice_set ws j Gone))
open_struck ws j (inl q) = (quiet_lost ws j q).1
open_struck ws j (inr q) = (asked_lost ws j q).1

all_gone : (ws : List OutputState) (i : ℕ) (v : OutputState) → open_count ws ≡ 0 → slice_get ws i ≡ Some v → v ≡ Gone
all_gone [] i v e h = cc
all_gone (Quiet ∷ ws) i v e h = absurd (omega (arith, e))
all_gone (Asks ∷ ws) i v e h = absurd (omega (arith, e))
all_gone (Gone ∷ ws) zero v e h = cc
all_gone (Gone ∷ ws) (suc i) v e h = all_gone ws i v e h

less_zero : (w : OutputState) (q : ℕ) → q ≡ 0 → less_by w q ≡ 0
less_zero Quiet q e = e
less_zero Asks q e = omega (arith, e)
less_zero Gone q e = e

module _ (old : PartitionLogic) (j : ℕ) (h : old.live ≡ true) (sound : Sound old) (was : (slice_get old.outs j ≡ Some Quiet) ⊎ (slice_get old.outs j ≡ Some Asks)) where
  abbrev left : List OutputState
  left = slice_set old.outs j Gone

  -- what becomes of an output
  fate : (i m : ℕ) (w v : OutputState) → 0 + i ≡ m → slice_get old.outs i ≡ Some w → slice_get left i ≡ Some v → ((j ≡ m) × (v ≡ Gone)) ⊎ ((j ≢ m) × (v ≡ w))
  fate i m w v e p s = let z : i ≡ m = omega (arith, e) in subst (λ k. ((j ≡ k) × (v ≡ Gone)) ⊎ ((j ≢ k) × (v ≡ w))) z (set_at old.outs j i Gone w v p s)

  cancelled : (o w : Bool) (ys : List OutView) → OutsClosed ys → ActsAllowed (record { ins = input_of o w ∷ []; outs = ys }) (if o then [] else Cancel 0 ∷ []) × AllClosed (acted_all (record { ins = input_of o w ∷ []; outs = ys }) (if o then [] else Cancel 0 ∷ []))
  cancelled true w ys c = (tt, (tt, c))
  cancelled false true ys c = ((tt, tt), (tt, c))
  cancelled false false ys c = ((tt, tt), (tt, c))

  cancel_given : (o : Bool) (m : ℕ) → given_on m (if o then [] else Cancel 0 ∷ []) ≡ []
  cancel_given true m = refl
  cancel_given false m = refl

  cancel_stands : (o : Bool) → PullsStand (if o then [] else Cancel 0 ∷ [])
  cancel_stands true = tt
  cancel_stands false = tt

  last_lost : old.open_outs ≡ 1 → Handled (cancels j) old (if old.over then [] else Cancel 0 ∷ []) (record (struck j old) { live = false })
  last_lost one =
      let none : open_count left ≡ 0 = let c = open_struck old.outs j was in let e = sound.open_is in omega (arith, c, e, one) in
      let e : slice_set (map want_view old.outs) j Cancelled ≡ map want_view left = want_set old.outs j Gone in
      let c = cancelled old.over old.waits (slice_set (map want_view old.outs) j Cancelled) (subst (λ (ys : List OutView). OutsClosed ys) (sym e) (gone_views left none)) in
      record {
        ports = obeys (cancels j) old (record (struck j old) { live = false }) (if old.over then [] else Cancel 0 ∷ []) h (record { allowed = c.0; row_then = c.1 });
        gives = record {
          turns = λ book. turns_each book old (cancels j) (if old.over then [] else Cancel 0 ∷ []) (held_of old) (λ m v. shut) old.outs left 0 (length-set old.outs j Gone) (λ i m w v x p s.
              rw (cancel_given old.over m) (by_fate book m w v (all_gone left i v none s) (fate i m w v x p s)));
          node = refl;
          parts = refl;
          fun = refl;
          outputs = length-set old.outs j Gone;
          stands = cancel_stands old.over;
        };
      }
    where
      by_fate : (book : Book) (m : ℕ) (w v : OutputState) → v ≡ Gone → ((j ≡ m) × (v ≡ Gone)) ⊎ ((j ≢ m) × (v ≡ w)) → TurnAt (mach book old m) m (cancels j) (held_of old m w) [] shut
      by_fate book m w v g (inl (e, x)) = gone_here (mach book old m) m j (held_for m old.to old.held) (state_of old.over (stage_of old m)) w e
      by_fate book m w v g (inr (n, x)) = let y : w ≡ Gone = sym x ∙ g in rw y (refl, refl)

  struck_sound : (k : Option Tree) (w : Bool) → old.open_outs ≢ 1 → Holding k (record (struck j old) { held = k; waits = w }) → Sound (record (struck j old) { held = k; waits = w })
  struck_sound k w n d =
      let c = open_struck old.outs j was in let e = sound.open_is in let s = sound.some in let l = length-set old.outs j Gone in let f = sound.few in
      record { asking_is = ap (λ q. less_by (slice_index_or old.outs j Gone) q) sound.asking_is ∙ asks_struck old.outs j; open_is = omega (arith, c, e); some = omega (arith, s, n); parts = sound.parts; few = omega (arith, l, f); holds = d; wants = λ x. let q = open_le old.outs in inr (omega (arith, s, e, q, l)) }

  struck_views : (seen (cancels j) (view_of old)).outs ≡ map want_view left
  struck_views = want_set old.outs j Gone

  -- the turns where all that is left goes on
  lost_turns : (book : Book) (acts : List Act) (k : Option Tree) (b : Bool) → ((m : ℕ) → given_on m acts ≡ []) → ((m : ℕ) → j ≢ m → held_for m old.to old.held ≡ held_for m old.to k)
      → TurnsAt 0 (cancels j) (dealers book old (held_of old) 0 old.outs) acts (dues (held_of (record (struck j old) { held = k; waits = b })) 0 left)
  lost_turns book acts k b g same_kept = turns_each book old (cancels j) acts (held_of old) (held_of (record (struck j old) { held = k; waits = b })) old.outs left 0 (length-set old.outs j Gone) (λ i m w v x p s. rw (g m) (by_fate m w v (fate i m w v x p s)))
    where
      by_fate : (m : ℕ) (w v : OutputState) → ((j ≡ m) × (v ≡ Gone)) ⊎ ((j ≢ m) × (v ≡ w)) → TurnAt (mach book old m) m (cancels j) (held_of old m w) [] (due_of (held_for m old.to k) (state_of old.over (stage_of old m)) v)
      by_fate m w v (inl (e, x)) = rw x (gone_here (mach book old m) m j (held_for m old.to old.held) (state_of old.over (stage_of old m)) w e)
      by_fate m w v (inr (n, x)) = rw (x, ← same_kept m n) (still (mach book old m) m (cancels j) (held_for m old.to old.held) (state_of old.over (stage_of old m)) w w (other j m (λ e. n e)) refl)

  kept_lost : old.open_outs ≢ 1 → (old.to ≡ j → old.held ≡ None) → Handled (cancels j) old [] (struck j old)
  kept_lost n d = record {
    ports = obeys (cancels j) old (struck j old) [] h (record {
      allowed = tt;
      row_then = is_standing (struck j old) (seen (cancels j) (view_of old)) h (ap (λ (ys : List OutView). record { ins = input_of old.over old.waits ∷ []; outs = ys }) struck_views) (struck_sound old.held old.waits n (by_held old.held refl));
    });
    gives = record { turns = λ book. rw h (lost_turns book [] old.held old.waits (λ m. refl) (λ m e. refl)); node = refl; parts = refl; fun = refl; outputs = length-set old.outs j Gone; stands = tt };
  }
    where
      by_held : (k : Option Tree) → old.held ≡ k → Holding k (record (struck j old) { held = k })
      by_held None e = let r = held_none old sound e in (r.0, λ w. less_zero (slice_index_or old.outs j Gone) old.asking (r.1 w))
      by_held (Some t) e = let s = held_some old t sound e in (s.0, get_other old.outs j old.to Gone (λ x. let n = d (sym x) in cc) ∙ s.1)

  abbrev asks_left : ℕ
  asks_left = less_by (slice_index_or old.outs j Gone) old.asking

  abbrev drop_to : PartitionLogic
  drop_to = record (struck j old) { held = None; waits = waits_by asks_left }

  drop_kept : (t : Tree) → old.to ≡ j → old.held ≡ Some t → (m : ℕ) → j ≢ m → held_for m old.to old.held ≡ []
  drop_kept t d k m n = let x : (j == m) ≡ false = other j m (λ e. n e) in rw (k, d, x) refl

  drop_more : (t : Tree) → old.open_outs ≢ 1 → old.to ≡ j → old.held ≡ Some t → old.over ≡ false → Handled (cancels j) old (pull_by asks_left) drop_to
  drop_more t n d k o =
      let w = (held_some old t sound k).0 in
      let p = pulled asks_left (map want_view left) in
      let before : ◌≡◌ {A = View} (seen (cancels j) (view_of old)) (record { ins = inlet.Idle ∷ []; outs = map want_view left }) =
      ap (λ (x : InView). record { ins = x ∷ []; outs = slice_set (map want_view old.outs) j Cancelled }) (rw (o, w) refl) ∙ ap (λ (ys : List OutView). record { ins = inlet.Idle ∷ []; outs = ys }) (want_set old.outs j Gone) in
      let after : ◌≡◌ {A = View} (record { ins = input_of false (waits_by asks_left) ∷ []; outs = map want_view left }) (view_of drop_to) = rw o refl in
      record {
        ports = obeys (cancels j) old drop_to (pull_by asks_left) h (record {
          allowed = subst (λ (v : View). ActsAllowed v (pull_by asks_left)) (sym before) p.allowed;
          row_then = is_standing drop_to (acted_all (seen (cancels j) (view_of old)) (pull_by asks_left)) h (ap (λ (v : View). acted_all v (pull_by asks_left)) before ∙ p.then_is ∙ after) (struck_sound None (waits_by asks_left) n (o, p.none));
        });
        gives = record { turns = λ book. rw h (lost_turns book (pull_by asks_left) None (waits_by asks_left) (pull_given asks_left) (drop_kept t d k)); node = refl; parts = refl; fun = refl; outputs = length-set old.outs j Gone; stands = p.stands };
      }

  drop_last : (t : Tree) → old.to ≡ j → old.held ≡ Some t → old.over ≡ true → Handled (cancels j) old (at_open (λ i. Complete i) 0 left) (record (struck j old) { held = None; live = false })
  drop_last t d k o =
      let a = complete_given left in
      let before : ◌≡◌ {A = View} (seen (cancels j) (view_of old)) (record { ins = inlet.Finished ∷ []; outs = map want_view left }) =
      ap (λ (x : InView). record { ins = x ∷ []; outs = slice_set (map want_view old.outs) j Cancelled }) (rw o refl) ∙ ap (λ (ys : List OutView). record { ins = inlet.Finished ∷ []; outs = ys }) (want_set old.outs j Gone) in
      record {
        ports = obeys (cancels j) old (record (struck j old) { held = None; live = false }) (at_open (λ i. Complete i) 0 left) h (record {
          allowed = subst (λ (v : View). ActsAllowed v (at_open (λ i. Complete i) 0 left)) (sym before) a.allowed;
          row_then = subst (λ (v : View). AllClosed v) (sym (ap (λ (v : View). acted_all v (at_open (λ i. Complete i) 0 left)) before ∙ a.then_is)) (tt, shut_views left);
        });
        gives = record {
          turns = λ book. turns_each book old (cancels j) (at_open (λ i. Complete i) 0 left) (held_of old) (λ m v. shut) old.outs left 0 (length-set old.outs j Gone) (λ i m w v x p s.
              rw (open_given (λ i. Complete i) (λ i. item.Ended) (λ a n. refl) left 0 i m v x s) (by_fate book m w v (fate i m w v x p s)));
          node = refl;
          parts = refl;
          fun = refl;
          outputs = length-set old.outs j Gone;
          stands = a.stands;
        };
      }
    where
      by_fate : (book : Book) (m : ℕ) (w v : OutputState) → ((j ≡ m) × (v ≡ Gone)) ⊎ ((j ≢ m) × (v ≡ w)) → TurnAt (mach book old m) m (cancels j) (held_of old m w) (given_one (λ i. Complete i) (λ i. item.Ended) (λ a n. refl) m v) shut
      by_fate book m w v (inl (e, x)) = rw x (gone_here (mach book old m) m j (held_for m old.to old.held) (state_of old.over (stage_of old m)) w e)
      by_fate book m w v (inr (n, x)) = rw (x, drop_kept t d k m n, o) (ends_lost (mach book old m) m j w (other j m (λ e. n e)))

  by_pass : (new : PartitionLogic) (acts : List Act) → old.open_outs ≢ 1 → PassedOver j (struck j old) new acts → Handled (cancels j) old acts new
  by_pass new acts n (kept_on d to_is acts_are) = rw (to_is, acts_are) (kept_lost n d)
  by_pass new acts n (dropped t d k to_is acts_are) = rw (to_is, acts_are) (by_over_of old.over refl)
    where
      by_over_of : (b : Bool) → old.over ≡ b → Handled (cancels j) old (moving_acts b (record (struck j old) { held = None })) (moved_on b (record (struck j old) { held = None }))
      by_over_of true o = drop_last t d k o
      by_over_of false o = drop_more t n d k o

pub lost : (old new : PartitionLogic) (acts : List Act) (j : ℕ) → old.live ≡ true → Meets (cancels j) (port_state old) → Lost j old new acts → Handled (cancels j) old acts new
lost old new acts j h m (last one to_is acts_are) =
    let f = found (cancels j) old h m in
    rw (to_is, acts_are) (last_lost old j h f.sound (is_open old.outs j f.may) one)
lost old new acts j h m (others n p) =
    let f = found (cancels j) old h m in
    by_pass old j h f.sound (is_open old.outs j f.may) new acts n p

-- ---- an element

view_asks : (ws : List OutputState) (p : ℕ) → slice_index_or ws p Gone ≡ Asks → slice_index_or (map want_view ws) p Closed ≡ Available
view_asks [] p h = cc
view_asks (Quiet ∷ ws) zero h = cc
view_asks (Asks ∷ ws) zero h = refl
view_asks (Gone ∷ ws) zero h = cc
view_asks (x ∷ ws) (suc p) h = view_asks ws p h

index_quiet : (ws : List OutputState) (p : ℕ) → slice_index_or ws p Gone ≡ Quiet → slice_get ws p ≡ Some Quiet
index_quiet [] p h = cc
index_quiet (x ∷ ws) zero h = cc
index_quiet (x ∷ ws) (suc p) h = index_quiet ws p h

quiet_set : (ws : List OutputState) (p : ℕ) → slice_index_or ws p Gone ≡ Asks → (asks_count ws ≡ suc (asks_count (slice_set ws p Quiet))) × (open_count (slice_set ws p Quiet) ≡ open_count ws)
quiet_set [] p h = cc
quiet_set (Quiet ∷ ws) zero h = cc
quiet_set (Asks ∷ ws) zero h = (refl, refl)
quiet_set (Gone ∷ ws) zero h = cc
quiet_set (Quiet ∷ ws) (suc p) h = let r = quiet_set ws p h in (r.0, ap suc r.1)
quiet_set (Asks ∷ ws) (suc p) h = let r = quiet_set ws p h in (ap suc r.0, ap suc r.1)
quiet_set (Gone ∷ ws) (suc p) h = quiet_set ws p h

waiting_zero : (o w : Bool) (i : ℕ) → in_at (record { ins = input_of o w ∷ []; outs = [] }) i ≡ inlet.Pulled → (i ≡ 0) × ((o ≡ false) × (w ≡ true))
waiting_zero true w zero h = cc
waiting_zero false true zero h = (refl, (refl, refl))
waiting_zero false false zero h = cc
waiting_zero o w (suc i) h = cc

none_held : (old : PartitionLogic) → Sound old → old.waits ≡ true → old.held ≡ None
none_held old s w = by_held old.held refl
  where
    by_held : (k : Option Tree) → old.held ≡ k → k ≡ None
    by_held None e = refl
    by_held (Some t) e = let r = (held_some old t s e).0 in cc

module _ (old : PartitionLogic) (t : Tree) (h : old.live ≡ true) (sound : Sound old) (o : old.over ≡ false) (n : old.held ≡ None) where
  abbrev one_on : PartitionLogic
  one_on = record old { taken = old.taken + 1 }

  abbrev call : Call
  call = arrives 0 (item.Elem t)

  module _ (p : ℕ) (is : part_of old.parts (map_value old.fun t) ≡ Ok p) where
    -- an output that gets nothing
    other_turn : (book : Book) (m : ℕ) (w : OutputState) → (p == m) ≡ false → TurnAt (mach book old m) m call (held_of old m w) [] (due_of [] (going (stage_of one_on m)) w)
    other_turn book m w e = rw (n, o) (deal_other book old.parts old.fun old.node old.taken m t p is e w)

    deal_gives : slice_index_or old.outs p Gone ≡ Asks → Handled call old (Push p t ∷ pull_by (old.asking - 1)) (with_given p one_on)
    deal_gives a =
        let to = with_given p one_on in
        let acts = Push p t ∷ pull_by (old.asking - 1) in
        let c = quiet_set old.outs p a in
        let pu = pulled (old.asking - 1) (map want_view (slice_set old.outs p Quiet)) in
        let first_view : ◌≡◌ {A = View} (record { ins = inlet.Idle ∷ []; outs = slice_set (map want_view old.outs) p Unpulled }) (record { ins = inlet.Idle ∷ []; outs = map want_view (slice_set old.outs p Quiet) }) =
        ap (λ (ys : List OutView). record { ins = inlet.Idle ∷ []; outs = ys }) (want_set old.outs p Quiet) in
        let after : ◌≡◌ {A = View} (record { ins = input_of false (waits_by (old.asking - 1)) ∷ []; outs = map want_view (slice_set old.outs p Quiet) }) (view_of (with_given p one_on)) = rw o refl in
        let s : Sound (with_given p one_on) = record {
          asking_is = let x = c.0 in let e = sound.asking_is in omega (arith, x, e);
          open_is = sound.open_is ∙ sym c.1;
          some = sound.some;
          parts = sound.parts;
          few = let l = length-set old.outs p Quiet in let f = sound.few in omega (arith, l, f);
          holds = rw n (o, pu.none);
          wants = λ e. inl (waits_some (old.asking - 1) e);
        } in
        record {
          ports = obeys call old (with_given p one_on) (Push p t ∷ pull_by (old.asking - 1)) h (record {
            allowed = (view_asks old.outs p a, subst (λ (v : View). ActsAllowed v (pull_by (old.asking - 1))) (sym first_view) pu.allowed);
            row_then = is_standing (with_given p one_on) (acted_all (seen call (view_of old)) (Push p t ∷ pull_by (old.asking - 1))) h (ap (λ (v : View). acted_all v (pull_by (old.asking - 1))) first_view ∙ pu.then_is ∙ after) s;
          });
          gives = record {
            turns = λ book. rw h (turns_each book old call (Push p t ∷ pull_by (old.asking - 1)) (held_of old) (held_of (with_given p one_on)) old.outs (slice_set old.outs p Quiet) 0 (length-set old.outs p Quiet) (λ i m w v x g r.
                one book i m w v x g (set_at old.outs p i Quiet w v g r)));
            node = refl;
            parts = refl;
            fun = refl;
            outputs = length-set old.outs p Quiet;
            stands = pu.stands;
          };
        }
      where
        given_then : (m : ℕ) (b : Bool) → (p == m) ≡ b → given_on m (Push p t ∷ pull_by (old.asking - 1)) ≡ (if b then item.Elem t ∷ [] else []) ++ []
        given_then m b e = push_given p m b t (pull_by (old.asking - 1)) e ∙ ap (λ (l : List Item). (if b then item.Elem t ∷ [] else []) ++ l) (pull_given (old.asking - 1) m)

        one : (book : Book) (i m : ℕ) (w v : OutputState) → 0 + i ≡ m → slice_get old.outs i ≡ Some w → ((p ≡ i) × (v ≡ Quiet)) ⊎ ((p ≢ i) × (v ≡ w))
            → TurnAt (mach book old m) m call (held_of old m w) (given_on m (Push p t ∷ pull_by (old.asking - 1))) (held_of (with_given p one_on) m v)
        one book i m w v x g (inl (e, q)) =
            let z : (p == m) ≡ true = same p m (omega (arith, e, x)) in
            let y : w ≡ Asks = sym (get_of old.outs i w g) ∙ ap (λ k. slice_index_or old.outs k Gone) (sym e) ∙ a in
            rw (given_then m true z, n, o, q) (deal_given book old.parts old.fun old.node old.taken m t p is z w y)
        one book i m w v x g (inr (d, q)) =
            let z : (p == m) ≡ false = other p m (λ e. d (omega (arith, e, x))) in
            rw (given_then m false z, n, o, q) (deal_other book old.parts old.fun old.node old.taken m t p is z w)

    deal_keeps : slice_index_or old.outs p Gone ≡ Quiet → Handled call old [] (record one_on { to = p; held = Some t; waits = false })
    deal_keeps a =
        let q = index_quiet old.outs p a in
        let after : ◌≡◌ {A = View} (record { ins = inlet.Idle ∷ []; outs = map want_view old.outs }) (view_of (record one_on { to = p; held = Some t; waits = false })) = rw o refl in
        record {
          ports = obeys call old (record one_on { to = p; held = Some t; waits = false }) [] h (record {
            allowed = tt;
            row_then = is_standing (record one_on { to = p; held = Some t; waits = false }) (seen call (view_of old)) h after
                (record { asking_is = sound.asking_is; open_is = sound.open_is; some = sound.some; parts = sound.parts; few = sound.few; holds = (refl, q); wants = λ e. cc });
          });
          gives = record {
            turns = λ book. rw h (turns_each book old call [] (held_of old) (held_of (record one_on { to = p; held = Some t; waits = false })) old.outs old.outs 0 refl (λ i m w v x g r.
                let y : w ≡ v = same_get old.outs i w v g r in
                rw (← y) (by_bool book m w (p == m) refl (λ z. let k : p ≡ i = let u = equal_by p m z in omega (arith, u, x) in same_get old.outs i w Quiet g (rw (← k) q)))));
            node = refl;
            parts = refl;
            fun = refl;
            outputs = refl;
            stands = tt;
          };
        }
      where
        by_bool : (book : Book) (m : ℕ) (w : OutputState) (b : Bool) → (p == m) ≡ b → (b ≡ true → w ≡ Quiet) → TurnAt (mach book old m) m call (held_of old m w) [] (held_of (record one_on { to = p; held = Some t; waits = false }) m w)
        by_bool book m w true e f = rw (n, o, e) (deal_kept book old.parts old.fun old.node old.taken m t p is e w (f refl))
        by_bool book m w false e f = rw (n, o, e) (deal_other book old.parts old.fun old.node old.taken m t p is e w)

    deal_drops : slice_index_or old.outs p Gone ≡ Gone → Handled call old (pull_by old.asking) (record one_on { waits = waits_by old.asking })
    deal_drops a =
        let pu = pulled old.asking (map want_view old.outs) in
        let after : ◌≡◌ {A = View} (record { ins = input_of false (waits_by old.asking) ∷ []; outs = map want_view old.outs }) (view_of (record one_on { waits = waits_by old.asking })) = rw o refl in
        record {
          ports = obeys call old (record one_on { waits = waits_by old.asking }) (pull_by old.asking) h (record {
            allowed = pu.allowed;
            row_then = is_standing (record one_on { waits = waits_by old.asking }) (acted_all (seen call (view_of old)) (pull_by old.asking)) h (pu.then_is ∙ after)
                (record { asking_is = sound.asking_is; open_is = sound.open_is; some = sound.some; parts = sound.parts; few = sound.few; holds = rw n (o, pu.none); wants = λ e. inl (waits_some old.asking e) });
          });
          gives = record {
            turns = λ book. rw h (turns_each book old call (pull_by old.asking) (held_of old) (held_of (record one_on { waits = waits_by old.asking })) old.outs old.outs 0 refl (λ i m w v x g r.
                let y : w ≡ v = same_get old.outs i w v g r in
                rw (← y, pull_given old.asking m) (by_bool book m w (p == m) refl (λ z. let k : p ≡ i = let u = equal_by p m z in omega (arith, u, x) in sym (get_of old.outs i w g) ∙ ap (λ e. slice_index_or old.outs e Gone) (sym k) ∙ a))));
            node = refl;
            parts = refl;
            fun = refl;
            outputs = refl;
            stands = pu.stands;
          };
        }
      where
        by_bool : (book : Book) (m : ℕ) (w : OutputState) (b : Bool) → (p == m) ≡ b → (b ≡ true → w ≡ Gone) → TurnAt (mach book old m) m call (held_of old m w) [] (held_of (record one_on { waits = waits_by old.asking }) m w)
        by_bool book m w true e f = let g : w ≡ Gone = f refl in rw g (refl, refl)
        by_bool book m w false e f = rw (n, o) (deal_other book old.parts old.fun old.node old.taken m t p is e w)

    by_deal : (new : PartitionLogic) (acts : List Act) → Dealt p t one_on new acts → Handled call old acts new
    by_deal new acts (given a to_is acts_are) = rw (to_is, acts_are) (deal_gives a)
    by_deal new acts (keeps a to_is acts_are) = rw (to_is, acts_are) (deal_keeps a)
    by_deal new acts (drops a to_is acts_are) = rw (to_is, acts_are) (deal_drops a)

  abbrev blame_acts : Why → List Act
  blame_acts why = Cancel 0 ∷ at_open (λ i. FailOut i (blaming old why)) 0 old.outs

  deal_fails : (why : Why) → part_of old.parts (map_value old.fun t) ≡ Err why → Handled call old (blame_acts why) (shut_l old)
  deal_fails why is =
      let a = fail_given (blaming old why) (inlet.Cancelled ∷ []) old.outs in
      record {
        ports = obeys call old (shut_l old) (blame_acts why) h (record {
          allowed = (tt, a.allowed);
          row_then = subst (λ (v : View). AllClosed v) (sym a.then_is) (tt, shut_views old.outs);
        });
        gives = record {
          turns = λ book. turns_each book old call (blame_acts why) (held_of old) (λ m v. shut) old.outs old.outs 0 refl (λ i m w v x g r.
              rw (open_given (λ i. FailOut i (blaming old why)) (λ i. item.Failed (blaming old why)) (λ a b. refl) old.outs 0 i m w x g, n, o) (deal_blamed book old.parts old.fun old.node old.taken m t why is w));
          node = refl;
          parts = refl;
          fun = refl;
          outputs = refl;
          stands = a.stands;
        };
      }

  by_serve : (new : PartitionLogic) (acts : List Act) → Served t old new acts → Handled call old acts new
  by_serve new acts (dealt p is d) = by_deal p is new acts d
  by_serve new acts (blamed why is to_is acts_are) = rw (to_is, acts_are) (deal_fails why is)

pub served_there : (l : PartitionLogic) (i : ℕ) (t : Tree) → l.live ≡ true → Meets (arrives i (item.Elem t)) (port_state l) → Sound l
served_there l i t h m = (found (arrives i (item.Elem t)) l h m).sound

pub served_on : (old new : PartitionLogic) (acts : List Act) (i : ℕ) (t : Tree) → old.live ≡ true → Meets (arrives i (item.Elem t)) (port_state old) → Served t old new acts → Handled (arrives i (item.Elem t)) old acts new
served_on old new acts i t h m d =
    let f = found (arrives i (item.Elem t)) old h m in
    let p = waiting_zero old.over old.waits i f.may in
    subst (λ k. Handled (arrives k (item.Elem t)) old acts new) (sym p.0) (by_serve old t h f.sound p.1.0 (none_held old f.sound p.1.1) new acts d)
