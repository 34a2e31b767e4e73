-- What the handlers of a broadcast and an unzip do keeps their row, and is a turn at each output.
use Rattle.std.specs.Prelude.{◌==◌, ◌-◌, if◌then◌else◌, slice_get, slice_set}
use Rattle.std.proofs.Common.{◌≡◌, ◌≢◌, ℕ, zero, suc, ◌≤◌, ◌<◌, ◌⊎◌, inl, inr, true, false, List, [], ◌∷◌, length, map, refl, sym, ap, ◌∙◌, subst, arith, Some}
use Rattle.std.proofs.lemmas.List.{length-set, length-map}
use Rattle.std.proofs.lemmas.Option.{slice_get_within}
use Rattle.elem_core.specs.Tree.{Tree}
use Rattle.elem_core.specs.declared.why.Cause.{Cause}
use Rattle.elem_core.specs.declared.item.Item.TheVariants as item
use Rattle.port_core.specs.declared.act.Act.{Act}
use Rattle.port_core.specs.declared.act.Act.TheVariants.{Pull, Push, Complete, FailOut, Cancel}
use Rattle.port_core.specs.declared.view.InView.{InView}
use Rattle.port_core.specs.declared.view.InView.TheVariants.{Idle, Pulled, Finished}
use Rattle.port_core.specs.declared.view.OutView.{OutView}
use Rattle.port_core.specs.declared.view.OutView.TheVariants.{Unpulled, Available, Closed, Cancelled}
use Rattle.port_core.specs.View.{View, in_at, IsInOpen, IsOutOpen, ActsAllowed, acted_all}
use Rattle.port_core.specs.Asking.{PullsStand}
use Rattle.port_core.specs.Call.{Call, starts, pulls, arrives, cancels, CallAllowed, seen, Obeys, Meets, given_on}
use Rattle.stream_model.specs.Linear.{Stage}
use Rattle.stream_model.specs.declared.kind.TheConstants.{MAX_FAN}
use Rattle.stage_core.specs.Held.{shut}
use Rattle.stage_core.specs.Turn.{none_lost, TurnAt}
use Rattle.stage_core.specs.Outs.{TurnsAt}
use Rattle.stage_core.specs.declared.outs.OutputState.{OutputState}
use Rattle.stage_core.specs.declared.outs.OutputState.TheVariants.{Quiet, Asks, Gone}
use Rattle.stage_core.specs.OpenOuts.{want_view, open_count, at_open, OutsClosed, AllClosed}
use Rattle.stage_out.specs.Copies.{copying, owed_by, owed, outlets, input_by, quiet_count, served_one, served}
use Rattle.stage_out.specs.CopyStates.{CopyLogic, part_by, view_of, Sound, port_state_by, port_state, Turned, Does, without, Lost, last, unasked, wanted}
use Rattle.stage_core.proofs.OutViews.{after_one, want_set, is_quiet, is_open, shut_views, gone_views}
use Rattle.stage_out.proofs.Wants.{other, asked_count, quiet_lost, asked_lost, served_quiet, served_open, Acted, acts_from, all_asked, all_open, served_views, given_one, turns_from, kept_turns, asked_turns, lost_turns, none_owed, map_same}

-- ---- the row

standing : (l : CopyLogic) (v : View) → l.live ≡ true → port_state l v → (v ≡ view_of l) × Sound l
standing l v h r = subst (λ b. port_state_by b l v) h r

is_standing : (l : CopyLogic) (v : View) → l.live ≡ true → v ≡ view_of l → Sound l → port_state l v
is_standing l v h is s = subst (λ b. port_state_by b l v) (sym h) (is, s)

-- what a call finds
pub record Found (call : Call) (l : CopyLogic) : Type 0 where
  pub may : CallAllowed call (view_of l)
  pub sound : Sound l

pub found : (call : Call) (l : CopyLogic) → l.live ≡ true → Meets call (port_state l) → Found call l
found call l h m =
    let s = standing l m.0 h m.1.1 in
    record { may = subst (λ v. CallAllowed call v) s.0 m.1.0; sound = s.1 }

pub record AtView (call : Call) (old new : CopyLogic) (acts : List Act) : Type 0 where
  pub allowed : ActsAllowed (seen call (view_of old)) acts
  pub row_then : port_state new (acted_all (seen call (view_of old)) acts)

obeys : (call : Call) (old new : CopyLogic) (acts : List Act) → old.live ≡ true → (CallAllowed call (view_of old) → Sound old → AtView call old new acts) → Obeys call (port_state old) (port_state new) acts
obeys call old new acts h at = record {
  allowed = λ v may r.
      let s = standing old v h r in
      let a = at (subst (λ w. CallAllowed call w) s.0 may) s.1 in
      subst (λ w. ActsAllowed (seen call w) acts) (sym s.0) a.allowed;
  ports = λ v may r.
      let s = standing old v h r in
      let a = at (subst (λ w. CallAllowed call w) s.0 may) s.1 in
      subst (λ w. port_state new (acted_all (seen call w) acts)) (sym s.0) a.row_then;
}

pub record Handled (call : Call) (old : CopyLogic) (acts : List Act) (new : CopyLogic) : Type 0 where
  pub ports : Obeys call (port_state old) (port_state new) acts
  pub gives : Turned call old acts new

pub started : (l : CopyLogic) → l.live ≡ true → Handled starts l [] l
started l h = record {
  ports = obeys starts l l [] h (λ may sound. record { allowed = tt; row_then = is_standing l (view_of l) h refl sound });
  gives = record { turns = λ s. rw h (kept_turns (part_by l.halves) s starts [] (λ k. refl) l.outs 0 (λ k n. tt)); halves = refl; outputs = refl; stands = tt };
}

-- ---- the input is asked where no open output is unasked

abbrev ask_by : ℕ → List Act
ask_by q = if q == 0 then Pull 0 ∷ [] else []

pub record Pulls (q : ℕ) (outs : List OutView) : Type 0 where
  pub allowed : ActsAllowed (record { ins = Idle ∷ []; outs = outs }) (ask_by q)
  pub then_is : acted_all (record { ins = Idle ∷ []; outs = outs }) (ask_by q) ≡ record { ins = input_by q ∷ []; outs = outs }
  pub stands : PullsStand (ask_by q)
  pub gives : (k : ℕ) → given_on k (ask_by q) ≡ []

pull_when : (q : ℕ) (outs : List OutView) → Pulls q outs
pull_when zero outs = record { allowed = (refl, tt); then_is = refl; stands = (tt, tt); gives = λ k. refl }
pull_when (suc q) outs =
    let x : (suc q == 0) ≡ false = other (suc q) 0 (λ e. absurd (omega (arith, e))) in
    record { allowed = rw x tt; then_is = rw x refl; stands = rw x tt; gives = λ k. rw x refl }

idle_by : (q : ℕ) → 1 ≤ q → input_by q ≡ Idle
idle_by zero h = absurd (omega (arith, h))
idle_by (suc q) h = refl

-- ---- an output is asked

pub quiet_some : (l : CopyLogic) (j : ℕ) → Sound l → slice_get l.outs j ≡ Some Quiet → 1 ≤ l.quiet
quiet_some l j s q = let c = (asked_count l.outs j q).quiet in let e = s.quiet_is in omega (arith, c, e)

pub asked_there : (l : CopyLogic) (j : ℕ) → l.live ≡ true → Meets (pulls j) (port_state l) → (j < length l.outs) × (1 ≤ l.quiet)
asked_there l j h m =
    let f = found (pulls j) l h m in
    let q = is_quiet l.outs j f.may in
    (slice_get_within l.outs j Quiet q, quiet_some l j f.sound q)

abbrev asked_to : ℕ → CopyLogic → CopyLogic
asked_to j old = record old { outs = slice_set old.outs j Asks; quiet = old.quiet - 1 }

pub asked : (old new : CopyLogic) (acts : List Act) (j : ℕ) → old.live ≡ true → Meets (pulls j) (port_state old) → Does new acts (asked_to j old) (ask_by (old.quiet - 1)) → Handled (pulls j) old acts new
asked old new acts j h m d =
    let f = found (pulls j) old h m in
    let q : slice_get old.outs j ≡ Some Quiet = is_quiet old.outs j f.may in
    let p = pull_when (old.quiet - 1) (slice_set (map want_view old.outs) j Available) in
    let c = asked_count old.outs j q in
    let some : 1 ≤ old.quiet = quiet_some old j f.sound q in
    let quiet_then : old.quiet - 1 ≡ quiet_count (slice_set old.outs j Asks) = let e = c.quiet in let k = f.sound.quiet_is in omega (arith, e, k) in
    let sound : Sound (asked_to j old) = record { quiet_is = quiet_then; open_is = f.sound.open_is ∙ sym c.open_outs; some = f.sound.some; few = let l = length-set old.outs j Asks in let k = f.sound.few in omega (arith, l, k); pair = λ e. length-set old.outs j Asks ∙ f.sound.pair e } in
    let before : ◌≡◌ {A = View} (seen (pulls j) (view_of old)) (record { ins = Idle ∷ []; outs = slice_set (map want_view old.outs) j Available }) =
    ap (λ (x : InView). record { ins = x ∷ []; outs = slice_set (map want_view old.outs) j Available }) (idle_by old.quiet some) in
    let then_is : acted_all (seen (pulls j) (view_of old)) (ask_by (old.quiet - 1)) ≡ view_of (asked_to j old) =
    ap (λ (v : View). acted_all v (ask_by (old.quiet - 1))) before ∙ p.then_is ∙ ap (λ (ys : List OutView). record { ins = input_by (old.quiet - 1) ∷ []; outs = ys }) (want_set old.outs j Asks) in
    rw (d.to_is, d.acts_are) (record {
      ports = obeys (pulls j) old (asked_to j old) (ask_by (old.quiet - 1)) h (λ may s. record {
        allowed = subst (λ (v : View). ActsAllowed v (ask_by (old.quiet - 1))) (sym before) p.allowed;
        row_then = is_standing (asked_to j old) (acted_all (seen (pulls j) (view_of old)) (ask_by (old.quiet - 1))) h then_is sound;
      });
      gives = record { turns = λ s. rw h (asked_turns (part_by old.halves) s j (ask_by (old.quiet - 1)) p.gives old.outs 0 j q); halves = refl; outputs = length-set old.outs j Asks; stands = p.stands };
    })

-- ---- an element

waits_quiet : (q : ℕ) → input_by q ≡ Pulled → q ≡ 0
waits_quiet zero h = refl
waits_quiet (suc q) h = cc

-- the port is the one input
one_port : (q i : ℕ) → in_at (record { ins = input_by q ∷ []; outs = [] }) i ≡ Pulled → (i ≡ 0) × (q ≡ 0)
one_port q zero h = (refl, waits_quiet q h)
one_port q (suc i) h = cc

open_port : (q i : ℕ) → IsInOpen (in_at (record { ins = input_by q ∷ []; outs = [] }) i) → i ≡ 0
open_port q zero h = refl
open_port q (suc i) h = absurd h

-- the outputs once each got its part
abbrev served_all : CopyLogic → CopyLogic
served_all old = record old { outs = served old.outs; quiet = old.open_outs }

abbrev pushes : CopyLogic → Tree → List Act
pushes old t = at_open (λ j. Push j (part_by old.halves j t)) 0 old.outs

pushed_zero : (old : CopyLogic) (t : Tree) → old.live ≡ true → Sound old → old.quiet ≡ 0 → Handled (arrives 0 (item.Elem t)) old (pushes old t) (served_all old)
pushed_zero old t h sound q =
    let none : quiet_count old.outs ≡ 0 = let e = sound.quiet_is in omega (arith, e, q) in
    let a : Acted (record { ins = Idle ∷ []; outs = map want_view old.outs }) (pushes old t) (map (after_one Unpulled) old.outs) =
    acts_from (λ j. Push j (part_by old.halves j t)) Unpulled (λ x. x ≡ Available) (λ v n p. p) (λ v n. refl) (λ n acts s. s) (Idle ∷ []) old.outs 0 [] refl (all_asked old.outs none) in
    let then_is : acted_all (record { ins = Idle ∷ []; outs = map want_view old.outs }) (pushes old t) ≡ view_of (served_all old) =
    a.then_is ∙ ap (λ (ys : List OutView). record { ins = Idle ∷ []; outs = ys }) (served_views old.outs) ∙ ap (λ (x : InView). record { ins = x ∷ []; outs = map want_view (served old.outs) }) (sym (idle_by old.open_outs sound.some)) in
    record {
      ports = obeys (arrives 0 (item.Elem t)) old (served_all old) (pushes old t) h (λ may s. record {
        allowed = a.allowed;
        row_then = is_standing (served_all old) (acted_all (seen (arrives 0 (item.Elem t)) (view_of old)) (pushes old t)) h then_is
            (record { quiet_is = sound.open_is ∙ sym (served_quiet old.outs); open_is = sound.open_is ∙ sym (served_open old.outs); some = sound.some; few = let l = length-map old.outs served_one in let k = sound.few in omega (arith, l, k); pair = λ e. length-map old.outs served_one ∙ sound.pair e });
      });
      gives = record {
        turns = λ s. rw h (turns_from (λ j. Push j (part_by old.halves j t)) (λ j. item.Elem (part_by old.halves j t)) (λ k n. refl) (part_by old.halves) s (arrives 0 (item.Elem t)) true served_one (push_at old s) old.outs 0 (pushes old t) (λ k l. refl));
        halves = refl;
        outputs = length-map old.outs served_one;
        stands = a.stands;
      };
    }
  where
    push_at : (old : CopyLogic) (s : Stage) (n : ℕ) (w : OutputState) → TurnAt (copying (part_by old.halves n)) n (arrives 0 (item.Elem t)) (owed_by s w) (given_one (λ j. Push j (part_by old.halves j t)) (λ j. item.Elem (part_by old.halves j t)) (λ k n. refl) n w) (owed_by s (served_one w))
    push_at old s n Quiet = ((refl, refl), none_lost refl)
    push_at old s n Asks = ((refl, refl), none_lost refl)
    push_at old s n Gone = (refl, refl)

pub pushed : (old new : CopyLogic) (acts : List Act) (i : ℕ) (t : Tree) → old.live ≡ true → Meets (arrives i (item.Elem t)) (port_state old) → Does new acts (served_all old) (pushes old t) → Handled (arrives i (item.Elem t)) old acts new
pushed old new acts i t h m d =
    let f = found (arrives i (item.Elem t)) old h m in
    let p = one_port old.quiet i f.may in
    rw (d.to_is, d.acts_are) (subst (λ n. Handled (arrives n (item.Elem t)) old (pushes old t) (served_all old)) (sym p.0) (pushed_zero old t h f.sound p.1))

-- what an element finds
pub pushed_there : (l : CopyLogic) (i : ℕ) (t : Tree) → l.live ≡ true → Meets (arrives i (item.Elem t)) (port_state l) → Sound l
pushed_there l i t h m = (found (arrives i (item.Elem t)) l h m).sound

-- ---- an end

abbrev closed_all : CopyLogic → CopyLogic
closed_all old = record old { live = false }

-- the input has ended or failed, and each open output does
ends_zero : (old : CopyLogic) → old.live ≡ true → Handled (arrives 0 item.Ended) old (at_open (λ j. Complete j) 0 old.outs) (closed_all old)
ends_zero old h =
    let a : Acted (record { ins = Finished ∷ []; outs = map want_view old.outs }) (at_open (λ j. Complete j) 0 old.outs) (map (after_one Closed) old.outs) =
    acts_from (λ j. Complete j) Closed IsOutOpen (λ v n p. p) (λ v n. refl) (λ n acts s. s) (Finished ∷ []) old.outs 0 [] refl (all_open old.outs) in
    record {
      ports = obeys (arrives 0 item.Ended) old (closed_all old) (at_open (λ j. Complete j) 0 old.outs) h (λ may s. record {
        allowed = a.allowed;
        row_then = subst (λ (v : View). AllClosed v) (sym a.then_is) (tt, shut_views old.outs);
      });
      gives = record {
        turns = λ s. (subst (λ (ws : List OutputState). TurnsAt 0 (arrives 0 item.Ended) (outlets (part_by old.halves) 0 s old.outs) (at_open (λ j. Complete j) 0 old.outs) (owed false s ws)) (map_same old.outs)
            (turns_from (λ j. Complete j) (λ j. item.Ended) (λ k n. refl) (part_by old.halves) s (arrives 0 item.Ended) false (λ w. w) (end_at old s) old.outs 0 (at_open (λ j. Complete j) 0 old.outs) (λ k l. refl)));
        halves = refl;
        outputs = refl;
        stands = a.stands;
      };
    }
  where
    end_at : (old : CopyLogic) (s : Stage) (n : ℕ) (w : OutputState) → TurnAt (copying (part_by old.halves n)) n (arrives 0 item.Ended) (owed_by s w) (given_one (λ j. Complete j) (λ j. item.Ended) (λ k n. refl) n w) shut
    end_at old s n Quiet = inl (refl, refl)
    end_at old s n Asks = inl (refl, refl)
    end_at old s n Gone = (refl, refl)

pub finished : (old new : CopyLogic) (acts : List Act) (i : ℕ) → old.live ≡ true → Meets (arrives i item.Ended) (port_state old) → Does new acts (closed_all old) (at_open (λ j. Complete j) 0 old.outs) → Handled (arrives i item.Ended) old acts new
finished old new acts i h m d =
    let f = found (arrives i item.Ended) old h m in
    let p = open_port old.quiet i f.may in
    rw (d.to_is, d.acts_are) (subst (λ n. Handled (arrives n item.Ended) old (at_open (λ j. Complete j) 0 old.outs) (closed_all old)) (sym p) (ends_zero old h))

fails_zero : (old : CopyLogic) (c : Cause) → old.live ≡ true → Handled (arrives 0 (item.Failed c)) old (at_open (λ j. FailOut j c) 0 old.outs) (closed_all old)
fails_zero old c h =
    let a : Acted (record { ins = Finished ∷ []; outs = map want_view old.outs }) (at_open (λ j. FailOut j c) 0 old.outs) (map (after_one Closed) old.outs) =
    acts_from (λ j. FailOut j c) Closed IsOutOpen (λ v n p. p) (λ v n. refl) (λ n acts s. s) (Finished ∷ []) old.outs 0 [] refl (all_open old.outs) in
    record {
      ports = obeys (arrives 0 (item.Failed c)) old (closed_all old) (at_open (λ j. FailOut j c) 0 old.outs) h (λ may s. record {
        allowed = a.allowed;
        row_then = subst (λ (v : View). AllClosed v) (sym a.then_is) (tt, shut_views old.outs);
      });
      gives = record {
        turns = λ s. (subst (λ (ws : List OutputState). TurnsAt 0 (arrives 0 (item.Failed c)) (outlets (part_by old.halves) 0 s old.outs) (at_open (λ j. FailOut j c) 0 old.outs) (owed false s ws)) (map_same old.outs)
            (turns_from (λ j. FailOut j c) (λ j. item.Failed c) (λ k n. refl) (part_by old.halves) s (arrives 0 (item.Failed c)) false (λ w. w) (fail_at old s) old.outs 0 (at_open (λ j. FailOut j c) 0 old.outs) (λ k l. refl)));
        halves = refl;
        outputs = refl;
        stands = a.stands;
      };
    }
  where
    fail_at : (old : CopyLogic) (s : Stage) (n : ℕ) (w : OutputState) → TurnAt (copying (part_by old.halves n)) n (arrives 0 (item.Failed c)) (owed_by s w) (given_one (λ j. FailOut j c) (λ j. item.Failed c) (λ k n. refl) n w) shut
    fail_at old s n Quiet = inl (refl, refl)
    fail_at old s n Asks = inl (refl, refl)
    fail_at old s n Gone = (refl, refl)

pub failed_on : (old new : CopyLogic) (acts : List Act) (i : ℕ) (c : Cause) → old.live ≡ true → Meets (arrives i (item.Failed c)) (port_state old) → Does new acts (closed_all old) (at_open (λ j. FailOut j c) 0 old.outs) → Handled (arrives i (item.Failed c)) old acts new
failed_on old new acts i c h m d =
    let f = found (arrives i (item.Failed c)) old h m in
    let p = open_port old.quiet i f.may in
    rw (d.to_is, d.acts_are) (subst (λ n. Handled (arrives n (item.Failed c)) old (at_open (λ j. FailOut j c) 0 old.outs) (closed_all old)) (sym p) (fails_zero old c h))

-- ---- a cancel

there_by : (l : CopyLogic) (j : ℕ) → (slice_get l.outs j ≡ Some Quiet) ⊎ (slice_get l.outs j ≡ Some Asks) → j < length l.outs
there_by l j (inl q) = slice_get_within l.outs j Quiet q
there_by l j (inr q) = slice_get_within l.outs j Asks q

pub lost_there : (l : CopyLogic) (j : ℕ) → l.live ≡ true → Meets (cancels j) (port_state l) → (j < length l.outs) × ((1 ≤ l.open_outs) × (slice_get l.outs j ≡ Some Quiet → 1 ≤ l.quiet))
lost_there l j h m =
    let f = found (cancels j) l h m in
    (there_by l j (is_open l.outs j f.may), (f.sound.some, λ q. quiet_some l j f.sound q))

module _ (old : CopyLogic) (j : ℕ) (h : old.live ≡ true) (sound : Sound old) where
  abbrev outs : List OutputState
  outs = slice_set old.outs j Gone

  few_then : length outs ≤ MAX_FAN
  few_then = let l = length-set old.outs j Gone in let k = sound.few in omega (arith, l, k)

  open_then : (slice_get old.outs j ≡ Some Quiet) ⊎ (slice_get old.outs j ≡ Some Asks) → open_count old.outs ≡ suc (open_count outs)
  open_then (inl q) = (quiet_lost old.outs j q).1
  open_then (inr q) = (asked_lost old.outs j q).1

  last_lost : (slice_get old.outs j ≡ Some Quiet) ⊎ (slice_get old.outs j ≡ Some Asks) → old.open_outs ≡ 1 → Handled (cancels j) old (Cancel 0 ∷ []) (record (without j old) { live = false })
  last_lost w one =
      let none : open_count outs ≡ 0 = let c = open_then w in let e = sound.open_is in omega (arith, c, e, one) in
      let e : slice_set (map want_view old.outs) j Cancelled ≡ map want_view outs = want_set old.outs j Gone in
      record {
        ports = obeys (cancels j) old (record (without j old) { live = false }) (Cancel 0 ∷ []) h (λ may s. record {
          allowed = (open_in old.quiet, tt);
          row_then = (tt, subst (λ (ys : List OutView). OutsClosed ys) (sym e) (gone_views outs none));
        });
        gives = record {
          turns = λ s. (subst (λ o. TurnsAt 0 (cancels j) (outlets (part_by old.halves) 0 s old.outs) (Cancel 0 ∷ []) o) (none_owed s outs none) (lost_turns (part_by old.halves) s j (Cancel 0 ∷ []) (λ k. refl) old.outs 0 j (omega arith)));
          halves = refl;
          outputs = length-set old.outs j Gone;
          stands = tt;
        };
      }
    where
      open_in : (q : ℕ) → IsInOpen (input_by q)
      open_in zero = tt
      open_in (suc q) = tt

  some_left : (slice_get old.outs j ≡ Some Quiet) ⊎ (slice_get old.outs j ≡ Some Asks) → old.open_outs ≢ 1 → Sound (record (without j old) { quiet = quiet_count outs })
  some_left w n = record {
    quiet_is = refl;
    open_is = let c = open_then w in let e = sound.open_is in omega (arith, c, e);
    some = let k = sound.some in omega (arith, k, n);
    few = few_then;
    pair = λ e. length-set old.outs j Gone ∙ sound.pair e;
  }

  unasked_lost : slice_get old.outs j ≡ Some Quiet → old.open_outs ≢ 1 → Handled (cancels j) old (ask_by (old.quiet - 1)) (record (without j old) { quiet = old.quiet - 1 })
  unasked_lost q n =
      let p = pull_when (old.quiet - 1) (slice_set (map want_view old.outs) j Cancelled) in
      let count : old.quiet - 1 ≡ quiet_count outs = let c = (quiet_lost old.outs j q).0 in let e = sound.quiet_is in omega (arith, c, e) in
      let to : CopyLogic = record (without j old) { quiet = old.quiet - 1 } in
      let some : 1 ≤ old.quiet = quiet_some old j sound q in
      let before : ◌≡◌ {A = View} (seen (cancels j) (view_of old)) (record { ins = Idle ∷ []; outs = slice_set (map want_view old.outs) j Cancelled }) =
      ap (λ (x : InView). record { ins = x ∷ []; outs = slice_set (map want_view old.outs) j Cancelled }) (idle_by old.quiet some) in
      let then_is : acted_all (seen (cancels j) (view_of old)) (ask_by (old.quiet - 1)) ≡ view_of to =
      ap (λ (v : View). acted_all v (ask_by (old.quiet - 1))) before ∙ p.then_is ∙ ap (λ (ys : List OutView). record { ins = input_by (old.quiet - 1) ∷ []; outs = ys }) (want_set old.outs j Gone) in
      let left : Sound to = subst (λ k. Sound (record (without j old) { quiet = k })) (sym count) (some_left (inl q) n) in
      record {
        ports = obeys (cancels j) old to (ask_by (old.quiet - 1)) h (λ may s. record {
          allowed = subst (λ (v : View). ActsAllowed v (ask_by (old.quiet - 1))) (sym before) p.allowed;
          row_then = is_standing to (acted_all (seen (cancels j) (view_of old)) (ask_by (old.quiet - 1))) h then_is left;
        });
        gives = record { turns = λ s. rw h (lost_turns (part_by old.halves) s j (ask_by (old.quiet - 1)) p.gives old.outs 0 j (omega arith)); halves = refl; outputs = length-set old.outs j Gone; stands = p.stands };
      }

  wanted_lost : slice_get old.outs j ≡ Some Asks → old.open_outs ≢ 1 → Handled (cancels j) old [] (without j old)
  wanted_lost q n =
      let count : old.quiet ≡ quiet_count outs = sound.quiet_is ∙ (asked_lost old.outs j q).0 in
      let left : Sound (without j old) = subst (λ k. Sound (record (without j old) { quiet = k })) (sym count) (some_left (inr q) n) in
      record {
        ports = obeys (cancels j) old (without j old) [] h (λ may s. record {
          allowed = tt;
          row_then = is_standing (without j old) (seen (cancels j) (view_of old)) h (ap (λ (ys : List OutView). record { ins = input_by old.quiet ∷ []; outs = ys }) (want_set old.outs j Gone)) left;
        });
        gives = record { turns = λ s. rw h (lost_turns (part_by old.halves) s j [] (λ k. refl) old.outs 0 j (omega arith)); halves = refl; outputs = length-set old.outs j Gone; stands = tt };
      }

  by_loss : (new : CopyLogic) (acts : List Act) → (slice_get old.outs j ≡ Some Quiet) ⊎ (slice_get old.outs j ≡ Some Asks) → Lost j old new acts → Handled (cancels j) old acts new
  by_loss new acts w (last one to_is acts_are) = rw (to_is, acts_are) (last_lost w one)
  by_loss new acts w (unasked n q to_is acts_are) = rw (to_is, acts_are) (unasked_lost q n)
  by_loss new acts (inl q) (wanted n differs to_is acts_are) = absurd (differs q)
  by_loss new acts (inr q) (wanted n differs to_is acts_are) = rw (to_is, acts_are) (wanted_lost q n)

pub lost : (old new : CopyLogic) (acts : List Act) (j : ℕ) → old.live ≡ true → Meets (cancels j) (port_state old) → Lost j old new acts → Handled (cancels j) old acts new
lost old new acts j h m l =
    let f = found (cancels j) old h m in
    by_loss old j h f.sound new acts (is_open old.outs j f.may) l
