-- What each handler of a recover does keeps its port state, and is a turn of its law.
use Rattle.std.specs.Prelude.{◌≢◌, ◌==◌, IfSome, Option, None, Some}
use Rattle.std.proofs.Common.{◌≡◌, inl, inr, ℕ, zero, suc, ◌+◌, ◌<◌, ◌≤◌, Bool, true, false, List, [], ◌∷◌, ◌++◌, refl, sym, ap, ◌∙◌, subst, arith, append-nil, append_assoc}
use Rattle.std.proofs.lemmas.Bool.Decides.{nat_tests}
use Rattle.elem_core.specs.Tree.{Tree}
use Rattle.stream_model.specs.Outlook.{unended, ended, failed}
use Rattle.elem_core.specs.declared.why.Cause.{Cause}
use Rattle.elem_core.specs.declared.item.Item.{Item}
use Rattle.elem_core.specs.declared.item.Item.TheVariants as item
use Rattle.port_core.specs.Picks.{next_move, may_end, behind_next, plan_of, MayNote}
use Rattle.port_core.specs.declared.pick_log.Next.{Next}
use Rattle.port_core.specs.declared.pick_log.Next.TheVariants.{Free, Move, UsedUp}
use Rattle.port_core.specs.declared.act.Act.{Act}
use Rattle.port_core.specs.declared.act.Act.TheVariants.{Pull, Push, Complete, FailOut, Cancel}
use Rattle.port_core.specs.declared.view.InView.{InView}
use Rattle.port_core.specs.declared.view.InView.TheVariants.{Idle, Pulled, Finished, Cancelled}
use Rattle.port_core.specs.declared.view.OutView.{OutView}
use Rattle.port_core.specs.declared.view.OutView.TheVariants as outlet
use Rattle.port_core.specs.View.{View, OneOneOf, ActsAllowed, acted_all}
use Rattle.port_core.specs.Call.{Call, starts, pulls, arrives, cancels, MayCome, came, CallAllowed, seen, Obeys, Meets, given_on}
use Rattle.stage_core.specs.declared.phase.Phase.{Phase}
use Rattle.stage_core.specs.declared.phase.Phase.TheVariants.{New, Open, Closed}
use Rattle.stage_dropping.specs.Recovers.{RecoverHeld, passes, turned, stopped, shut, own_items, StopsFor, RecoverTurnAt}
use Rattle.stage_dropping.specs.Recoverings.{Recover, recover_at, recover_in, Passing, Owing, Ahead, StillBy, is_full, may_turn, stuck_by, port_state, held_in, held_by, held_of, Turned}
use Rattle.stage_dropping.specs.Recoverings as stage

abbrev one : InView → OutView → View
one x y = record { ins = x ∷ []; outs = y ∷ [] }

equal_of : (k n : ℕ) → (k == n) ≡ true → k ≡ n
equal_of k n e = grind (arith, nat_tests)

less_of : (k n : ℕ) → n ≤ k → (k == n) ≡ false → n < k
less_of k n h e = grind (arith, nat_tests)

more_of : (k n : ℕ) → n ≤ k → (k == n) ≡ false → n + 1 ≤ k
more_of k n h e = let less = less_of k n h e in omega (arith, less)

-- as many as passed may be noted
pub next_may : (left : Option (List ℕ)) (n : ℕ) → may_turn (next_move left) n ≡ true → MayNote n left
next_may None n f = tt
next_may (Some []) n f = cc
next_may (Some (k ∷ l)) n f = equal_of k n f

-- what a handler owes
pub record Handled (call : Call) (old : Recover) (acts : List Act) (new : Recover) : Type 0 where
  pub ports : Obeys call (port_state old) (port_state new) acts
  pub gives : Turned call old acts new

ends_of : (b : Item) → MayCome b Finished → ⊥
ends_of (item.Elem t) may = let z : Finished ≡ Pulled = may in cc
ends_of item.Ended may = may
ends_of (item.Failed c) may = may

-- by what is known of its two ports
obeys_by : (call : Call) (old new : Recover) (acts : List Act)
    → ((x : InView) (y : OutView) → CallAllowed call (one x y) → recover_in old.still old x y → ActsAllowed (seen call (one x y)) acts × port_state new (acted_all (seen call (one x y)) acts)) → Obeys call (port_state old) (port_state new) acts
obeys_by call old new acts step = record { allowed = λ v may r. (by_lists v.ins v.outs may r).0; ports = λ v may r. (by_lists v.ins v.outs may r).1 }
  where
    by_lists : (xs : List InView) (ys : List OutView) → CallAllowed call (record { ins = xs; outs = ys }) → OneOneOf (recover_in old.still old) xs ys
        → ActsAllowed (seen call (record { ins = xs; outs = ys })) acts × port_state new (acted_all (seen call (record { ins = xs; outs = ys })) acts)
    by_lists (x ∷ []) (y ∷ []) may r = step x y may r
    by_lists [] ys may r = absurd r
    by_lists (x ∷ []) [] may r = absurd r
    by_lists (x ∷ []) (y ∷ z ∷ ys) may r = absurd r
    by_lists (x ∷ u ∷ xs) ys may r = absurd r

-- ---- one that does nothing more

uncancelled_came : (b : Item) → came b ≡ Cancelled → ⊥
uncancelled_came (item.Elem t) h = cc
uncancelled_came item.Ended h = cc
uncancelled_came (item.Failed c) h = cc

unpulled_came : (b : Item) → came b ≡ Pulled → ⊥
unpulled_came (item.Elem t) h = cc
unpulled_came item.Ended h = cc
unpulled_came (item.Failed c) h = cc

still_came : (next : Next) (stuck : Bool) (x : InView) (b : Item) → MayCome b x → StillBy next stuck x → StillBy next stuck (came b)
still_came Free stuck x b may s = absurd s
still_came (Move k) stuck x b may s = (s.0, uncancelled_came b, unpulled_came b)
still_came UsedUp stuck x b may s = absurd (ends_of b (subst (λ (i : InView). MayCome b i) s.1 may))

still_seen : (call : Call) (old : Recover) (x : InView) (y : OutView) → CallAllowed call (one x y) → recover_in true old x y → OneOneOf (recover_in true old) (seen call (one x y)).ins (seen call (one x y)).outs
still_seen starts old x y may r = r
still_seen (pulls zero) old x y may r = r
still_seen (pulls (suc j)) old x y may r = r
still_seen (cancels zero) old x y may r = r
still_seen (cancels (suc j)) old x y may r = r
still_seen (arrives (suc i) b) old x y may r = r
still_seen (arrives zero b) old x y may r = (r.0, (r.1.0, still_came (next_move old.left) old.stuck x b may r.1.1))

pub stays_still : (call : Call) (old : Recover) → old.still ≡ true → old.phase ≡ Open → Handled call old [] old
stays_still call old on op = record {
  ports = obeys_by call old old [] (λ x y may r. (tt, subst (λ b. OneOneOf (recover_in b old) (seen call (one x y)).ins (seen call (one x y)).outs) (sym on) (still_seen call old x y may (subst (λ b. recover_in b old x y) on r))));
  gives = record {
    turn = λ t own. subst (λ (h : RecoverHeld). RecoverTurnAt t call h [] h) (sym (ap (λ b. held_by b old) on)) (refl, refl);
    own = λ e. refl;
    stands = tt;
    started = λ e. let z : New ≡ Open = sym e ∙ op in cc;
    more = [];
    grows = sym (append-nil old.moves);
    plan = refl;
  };
}

-- ---- one that goes on

module _ (old : Recover) (on : old.still ≡ false) (op : old.phase ≡ Open) where
  at : (x : InView) (y : OutView) → recover_in old.still old x y → recover_at old Open old.over old.asked x y × (old.stuck ≡ false)
  at x y r =
      let q = subst (λ b. recover_in b old x y) on r in
      (subst (λ p. recover_at old p old.over old.asked x y) op q.0, q.1)

  -- what it is known to be by where it stands
  obeys : (call : Call) (new : Recover) (acts : List Act)
      → ((o a : Bool) → old.over ≡ o → old.asked ≡ a → (x : InView) (y : OutView) → CallAllowed call (one x y) → recover_at old Open o a x y → old.stuck ≡ false
      → ActsAllowed (seen call (one x y)) acts × port_state new (acted_all (seen call (one x y)) acts))
      → Obeys call (port_state old) (port_state new) acts
  obeys call new acts step = obeys_by call old new acts (λ x y may r. let a = at x y r in step old.over old.asked refl refl x y may a.0 a.1)

  -- what an arriving item finds
  record Finds : Type 0 where
    open_is : old.over ≡ false
    passing : Passing old

  finds_at : (b : Item) (o a : Bool) → old.over ≡ o → (x : InView) (y : OutView) → MayCome b x → recover_at old Open o a x y → Finds
  finds_at b false true e Pulled outlet.Available may r = record { open_is = e; passing = r }
  finds_at b false false e Idle outlet.Unpulled may r = record { open_is = e; passing = r }
  finds_at b true false e Finished outlet.Unpulled may r = absurd (ends_of b may)
  finds_at b o a e x y may r = absurd r

  finds : (b : Item) → Meets (arrives 0 b) (port_state old) → Finds
  finds b m = by_lists m.0.ins m.0.outs m.1.0 m.1.1
    where
      by_lists : (xs : List InView) (ys : List OutView) → CallAllowed (arrives 0 b) (record { ins = xs; outs = ys }) → OneOneOf (recover_in old.still old) xs ys → Finds
      by_lists (x ∷ []) (y ∷ []) may r = finds_at b old.over old.asked refl x y may (at x y r).0
      by_lists [] ys may r = absurd r
      by_lists (x ∷ []) [] may r = absurd r
      by_lists (x ∷ []) (y ∷ z ∷ ys) may r = absurd r
      by_lists (x ∷ u ∷ xs) ys may r = absurd r

  passes_now : old.over ≡ false → held_of old ≡ passes old.passed
  passes_now e = ap (λ b. held_by b old) on ∙ ap (λ p. held_in p old.over old.passed old.moves) op ∙ ap (λ o. held_in Open o old.passed old.moves) e

  owes_now : old.over ≡ true → held_of old ≡ turned old.passed
  owes_now e = ap (λ b. held_by b old) on ∙ ap (λ p. held_in p old.over old.passed old.moves) op ∙ ap (λ o. held_in Open o old.passed old.moves) e

  turns : (t : Tree) (call : Call) (out : List Item) (h k new : RecoverHeld) → held_of old ≡ h → new ≡ k → RecoverTurnAt t call h out k → RecoverTurnAt t call (held_of old) out new
  turns t call out h k new a b z = subst (λ (x : RecoverHeld). RecoverTurnAt t call x out new) (sym a) (subst (λ (y : RecoverHeld). RecoverTurnAt t call h out y) (sym b) z)

  not_new : old.phase ≡ New → ⊥
  not_new e = let z : New ≡ Open = sym e ∙ op in cc

  -- a new one that is closed, or that goes on
  closed_state : (new : Recover) (x : InView) (y : OutView) → new.still ≡ false → new.phase ≡ Closed → new.stuck ≡ false → recover_at new Closed new.over new.asked x y → recover_in new.still new x y
  closed_state new x y s p calm r = subst (λ b. recover_in b new x y) (sym s) (subst (λ q. recover_at new q new.over new.asked x y) (sym p) r, calm)

  open_state : (new : Recover) (x : InView) (y : OutView) → new.still ≡ false → new.phase ≡ Open → new.stuck ≡ false → recover_at new Open new.over new.asked x y → recover_in new.still new x y
  open_state new x y s p calm r = subst (λ b. recover_in b new x y) (sym s) (subst (λ q. recover_at new q new.over new.asked x y) (sym p) r, calm)

  -- ---- the output is asked

  abbrev wanted : Recover
  wanted = record old { asked = true }

  wanted_passes : old.over ≡ false → held_of wanted ≡ passes old.passed
  wanted_passes e = ap (λ b. held_by b wanted) on ∙ ap (λ p. held_in p old.over old.passed old.moves) op ∙ ap (λ o. held_in Open o old.passed old.moves) e

  pub asks : old.over ≡ false → Handled (pulls 0) old (Pull 0 ∷ []) wanted
  asks e = record {
    ports = obeys (pulls 0) wanted (Pull 0 ∷ []) step;
    gives = record {
      turn = λ t own. turns t (pulls 0) [] (passes old.passed) (passes old.passed) (held_of wanted) (passes_now e) (wanted_passes e) (refl, (omega arith, refl));
      own = λ k. refl;
      stands = (tt, tt);
      started = not_new;
      more = [];
      grows = sym (append-nil old.moves);
      plan = refl;
    };
  }
    where
      as_asked : Passing old → recover_at wanted Open old.over true Pulled outlet.Available
      as_asked r = subst (λ o. recover_at wanted Open o true Pulled outlet.Available) (sym e) (record { unmoved = r.unmoved; own = r.own; ahead = r.ahead })

      step : (o a : Bool) → old.over ≡ o → old.asked ≡ a → (x : InView) (y : OutView) → CallAllowed (pulls 0) (one x y) → recover_at old Open o a x y → old.stuck ≡ false
          → ActsAllowed (seen (pulls 0) (one x y)) (Pull 0 ∷ []) × port_state wanted (acted_all (seen (pulls 0) (one x y)) (Pull 0 ∷ []))
      step false true i j Pulled outlet.Available may r calm = absurd (let z : outlet.Available ≡ outlet.Unpulled = may in cc)
      step false false i j Idle outlet.Unpulled may r calm = ((refl, tt), open_state wanted Pulled outlet.Available on op calm (as_asked r))
      step true false i j Finished outlet.Unpulled may r calm = absurd (let z : true ≡ false = sym i ∙ e in cc)
      step o a i j x y may r calm = absurd r

  -- ---- its own element goes out, and it completes

  abbrev given_own : Recover
  given_own = record old { phase = Closed; own = None }

  -- what is known where its own element is owed
  owing_at : (o a : Bool) → old.over ≡ o → o ≡ true → (x : InView) (y : OutView) → recover_at old Open o a x y → Owing old
  owing_at true false e k Finished outlet.Unpulled r = r
  owing_at true a e k x y r = absurd r
  owing_at false a e k x y r = cc

  pub owing : (v : View) → old.over ≡ true → port_state old v → Owing old
  owing v e r = by_lists v.ins v.outs r
    where
      by_lists : (xs : List InView) (ys : List OutView) → OneOneOf (recover_in old.still old) xs ys → Owing old
      by_lists (x ∷ []) (y ∷ []) r = owing_at old.over old.asked refl e x y (at x y r).0
      by_lists [] ys r = absurd r
      by_lists (x ∷ []) [] r = absurd r
      by_lists (x ∷ []) (y ∷ z ∷ ys) r = absurd r
      by_lists (x ∷ u ∷ xs) ys r = absurd r

  same_own : (t u : Tree) → old.own ≡ Some t → old.own ≡ Some u → t ≡ u
  same_own t u a b = let z : Some t ≡ Some u = sym a ∙ b in cc

  pub gives_own : (u : Tree) → old.own ≡ Some u → old.over ≡ true → Owing old → Handled (pulls 0) old (Push 0 u ∷ Complete 0 ∷ []) given_own
  gives_own u is e w = record {
    ports = obeys (pulls 0) given_own (Push 0 u ∷ Complete 0 ∷ []) step;
    gives = record {
      turn = λ t own. turns t (pulls 0) (own_items u) (turned old.passed) (shut old.moves) (held_of given_own) (owes_now e) (ap (λ b. held_by b given_own) on) (w.moved, ap own_items (same_own u t is own));
      own = λ k. let z : Closed ≡ Open = k in cc;
      stands = tt;
      started = λ k. let z : Closed ≡ New = k in cc;
      more = [];
      grows = sym (append-nil old.moves);
      plan = refl;
    };
  }
    where
      step : (o a : Bool) → old.over ≡ o → old.asked ≡ a → (x : InView) (y : OutView) → CallAllowed (pulls 0) (one x y) → recover_at old Open o a x y → old.stuck ≡ false
          → ActsAllowed (seen (pulls 0) (one x y)) (Push 0 u ∷ Complete 0 ∷ []) × port_state given_own (acted_all (seen (pulls 0) (one x y)) (Push 0 u ∷ Complete 0 ∷ []))
      step true false i j Finished outlet.Unpulled may r calm = ((refl, (tt, tt)), closed_state given_own Finished outlet.Closed on refl calm tt)
      step false true i j Pulled outlet.Available may r calm = absurd (let z : true ≡ false = sym e ∙ i in cc)
      step false false i j Idle outlet.Unpulled may r calm = absurd (let z : true ≡ false = sym e ∙ i in cc)
      step o a i j x y may r calm = absurd r

  -- ---- an element comes, and goes out

  abbrev passed_on : Recover
  passed_on = record old { passed = old.passed + 1; asked = false }

  one_more_ahead : (left : Option (List ℕ)) (n : ℕ) → is_full (next_move left) n ≡ false → Ahead left n → Ahead left (n + 1)
  one_more_ahead None n f h = tt
  one_more_ahead (Some []) n f h = tt
  one_more_ahead (Some (k ∷ l)) n f h = (more_of k n h.0 f, h.1)

  pub passes_on : (u : Tree) → Meets (arrives 0 (item.Elem u)) (port_state old) → is_full (next_move old.left) old.passed ≡ false → Handled (arrives 0 (item.Elem u)) old (Push 0 u ∷ []) passed_on
  passes_on u m f = record {
    ports = obeys (arrives 0 (item.Elem u)) passed_on (Push 0 u ∷ []) step;
    gives = record {
      turn = λ t own. turns t (arrives 0 (item.Elem u)) (item.Elem u ∷ []) (passes old.passed) (passes (old.passed + 1)) (held_of passed_on) (passes_now found.open_is) now_passes (refl, (omega arith, refl));
      own = λ k. refl;
      stands = tt;
      started = not_new;
      more = [];
      grows = sym (append-nil old.moves);
      plan = refl;
    };
  }
    where
      found : Finds
      found = finds (item.Elem u) m

      now_passes : held_of passed_on ≡ passes (old.passed + 1)
      now_passes = ap (λ b. held_by b passed_on) on ∙ ap (λ p. held_in p old.over (old.passed + 1) old.moves) op ∙ ap (λ o. held_in Open o (old.passed + 1) old.moves) found.open_is

      idle : recover_at passed_on Open old.over false Idle outlet.Unpulled
      idle = subst (λ o. recover_at passed_on Open o false Idle outlet.Unpulled) (sym found.open_is)
          (record { unmoved = found.passing.unmoved; own = found.passing.own; ahead = one_more_ahead old.left old.passed f found.passing.ahead })

      step : (o a : Bool) → old.over ≡ o → old.asked ≡ a → (x : InView) (y : OutView) → CallAllowed (arrives 0 (item.Elem u)) (one x y) → recover_at old Open o a x y → old.stuck ≡ false
          → ActsAllowed (seen (arrives 0 (item.Elem u)) (one x y)) (Push 0 u ∷ []) × port_state passed_on (acted_all (seen (arrives 0 (item.Elem u)) (one x y)) (Push 0 u ∷ []))
      step false true i j Pulled outlet.Available may r calm = ((refl, tt), open_state passed_on Idle outlet.Unpulled on op calm idle)
      step false false i j Idle outlet.Unpulled may r calm = absurd (let z : Idle ≡ Pulled = may in cc)
      step true false i j Finished outlet.Unpulled may r calm = absurd (let z : Finished ≡ Pulled = may in cc)
      step o a i j x y may r calm = absurd r

  -- ---- it stops

  abbrev halted : Recover
  halted = stage.stopped old

  -- a stop is a turn of the law, from one that passes
  halts : (call : Call) → (old.over ≡ false) → Passing old
      → ((t : Tree) → RecoverTurnAt t call (passes old.passed) [] (stopped (next_move old.left)))
      → Obeys call (port_state old) (port_state halted) [] → Handled call old [] halted
  halts call e w turn ports = record {
    ports = ports;
    gives = record {
      turn = λ t own. turns t call [] (passes old.passed) (stopped (next_move old.left)) (held_of halted) (passes_now e) refl (turn t);
      own = λ k. refl;
      stands = tt;
      started = not_new;
      more = [];
      grows = sym (append-nil old.moves);
      plan = refl;
    };
  }

  marked : (next : Next) (stuck : Bool) (x : InView) → (x ≡ Cancelled → ⊥) → (x ≡ Pulled → ⊥) → (next ≡ Free → ⊥) → (next ≡ UsedUp → ⊥) → StillBy next (stuck_by next stuck) x
  marked Free stuck x c d n u = absurd (n refl)
  marked (Move k) stuck x c d n u = (refl, c, d)
  marked UsedUp stuck x c d n u = absurd (u refl)

  full_stops : (next : Next) (n : ℕ) (u : Tree) → is_full next n ≡ true → (next ≡ Free → ⊥) × ((next ≡ UsedUp → ⊥) × StopsFor next n (record { list = u ∷ []; end = unended }))
  full_stops Free n u f = cc
  full_stops (Move k) n u f = (λ e. cc, (λ e. cc, inr (omega arith, (refl, equal_of k n f))))
  full_stops UsedUp n u f = cc

  pub stops_full : (u : Tree) → Meets (arrives 0 (item.Elem u)) (port_state old) → is_full (next_move old.left) old.passed ≡ true → Handled (arrives 0 (item.Elem u)) old [] halted
  stops_full u m f = halts (arrives 0 (item.Elem u)) found.open_is found.passing (λ t. (refl, why.1.1)) (obeys (arrives 0 (item.Elem u)) halted [] step)
    where
      found : Finds
      found = finds (item.Elem u) m

      why : (next_move old.left ≡ Free → ⊥) × ((next_move old.left ≡ UsedUp → ⊥) × StopsFor (next_move old.left) old.passed (record { list = u ∷ []; end = unended }))
      why = full_stops (next_move old.left) old.passed u f

      step : (o a : Bool) → old.over ≡ o → old.asked ≡ a → (x : InView) (y : OutView) → CallAllowed (arrives 0 (item.Elem u)) (one x y) → recover_at old Open o a x y → old.stuck ≡ false
          → ActsAllowed (seen (arrives 0 (item.Elem u)) (one x y)) [] × port_state halted (acted_all (seen (arrives 0 (item.Elem u)) (one x y)) [])
      step o a i j x y may r calm = (tt, (op, (found.passing.unmoved, marked (next_move old.left) old.stuck Idle (λ e. cc) (λ e. cc) why.0 why.1.0)))

  -- ---- the input has ended

  abbrev closed_now : Recover
  closed_now = record old { phase = Closed }

  pub ends_now : Meets (arrives 0 item.Ended) (port_state old) → Handled (arrives 0 item.Ended) old (Complete 0 ∷ []) closed_now
  ends_now m = record {
    ports = obeys (arrives 0 item.Ended) closed_now (Complete 0 ∷ []) step;
    gives = record {
      turn = λ t own. turns t (arrives 0 item.Ended) (item.Ended ∷ []) (passes old.passed) (shut []) (held_of closed_now) (passes_now found.open_is) (ap (λ b. held_by b closed_now) on ∙ ap shut found.passing.unmoved) (refl, (refl, refl));
      own = λ k. let z : Closed ≡ Open = k in cc;
      stands = tt;
      started = λ k. let z : Closed ≡ New = k in cc;
      more = [];
      grows = sym (append-nil old.moves);
      plan = refl;
    };
  }
    where
      found : Finds
      found = finds item.Ended m

      step : (o a : Bool) → old.over ≡ o → old.asked ≡ a → (x : InView) (y : OutView) → CallAllowed (arrives 0 item.Ended) (one x y) → recover_at old Open o a x y → old.stuck ≡ false
          → ActsAllowed (seen (arrives 0 item.Ended) (one x y)) (Complete 0 ∷ []) × port_state closed_now (acted_all (seen (arrives 0 item.Ended) (one x y)) (Complete 0 ∷ []))
      step false true i j Pulled outlet.Available may r calm = ((tt, tt), closed_state closed_now Finished outlet.Closed on refl calm tt)
      step false false i j Idle outlet.Unpulled may r calm = ((tt, tt), closed_state closed_now Finished outlet.Closed on refl calm tt)
      step true false i j Finished outlet.Unpulled may r calm = absurd may
      step o a i j x y may r calm = absurd r

  ended_stops : (next : Next) (n : ℕ) → may_end next ≡ false → (next ≡ Free → ⊥) × ((next ≡ UsedUp → ⊥) × StopsFor next n (record { list = []; end = ended }))
  ended_stops Free n f = cc
  ended_stops (Move k) n f = (λ e. cc, (λ e. cc, inl (refl, inl refl)))
  ended_stops UsedUp n f = cc

  pub stops_ended : Meets (arrives 0 item.Ended) (port_state old) → may_end (next_move old.left) ≡ false → Handled (arrives 0 item.Ended) old [] halted
  stops_ended m f = halts (arrives 0 item.Ended) found.open_is found.passing (λ t. (refl, why.1.1)) (obeys (arrives 0 item.Ended) halted [] step)
    where
      found : Finds
      found = finds item.Ended m

      why : (next_move old.left ≡ Free → ⊥) × ((next_move old.left ≡ UsedUp → ⊥) × StopsFor (next_move old.left) old.passed (record { list = []; end = ended }))
      why = ended_stops (next_move old.left) old.passed f

      step : (o a : Bool) → old.over ≡ o → old.asked ≡ a → (x : InView) (y : OutView) → CallAllowed (arrives 0 item.Ended) (one x y) → recover_at old Open o a x y → old.stuck ≡ false
          → ActsAllowed (seen (arrives 0 item.Ended) (one x y)) [] × port_state halted (acted_all (seen (arrives 0 item.Ended) (one x y)) [])
      step o a i j x y may r calm = (tt, (op, (found.passing.unmoved, marked (next_move old.left) old.stuck Finished (λ e. cc) (λ e. cc) why.0 why.1.0)))

  -- ---- the input has failed

  turned_plan : (moves : List ℕ) (left : Option (List ℕ)) (n : ℕ) → may_turn (next_move left) n ≡ true → plan_of (moves ++ n ∷ []) (behind_next left) ≡ plan_of moves left
  turned_plan moves None n f = refl
  turned_plan moves (Some []) n f = cc
  turned_plan moves (Some (k ∷ l)) n f =
      let e = equal_of k n f in
      ap (λ (ms : List ℕ). Some ms) (append_assoc moves (n ∷ []) l ∙ ap (λ j. moves ++ j ∷ l) (sym e))

  abbrev noted_now : Recover
  noted_now = record old { over = true; moves = old.moves ++ old.passed ∷ []; left = behind_next old.left }

  moved_once : Passing old → old.moves ++ old.passed ∷ [] ≡ old.passed ∷ []
  moved_once w = ap (λ (ms : List ℕ). ms ++ old.passed ∷ []) w.unmoved

  pub turns_quiet : (c : Cause) → Meets (arrives 0 (item.Failed c)) (port_state old) → may_turn (next_move old.left) old.passed ≡ true → old.asked ≡ false → Handled (arrives 0 (item.Failed c)) old [] noted_now
  turns_quiet c m f off = record {
    ports = obeys (arrives 0 (item.Failed c)) noted_now [] step;
    gives = record {
      turn = λ t own. turns t (arrives 0 (item.Failed c)) [] (passes old.passed) (turned old.passed) (held_of noted_now) (passes_now found.open_is) (ap (λ b. held_by b noted_now) on ∙ ap (λ p. held_in p true old.passed (old.moves ++ old.passed ∷ [])) op) (refl, (tt, (refl, refl)));
      own = λ k. refl;
      stands = tt;
      started = not_new;
      more = old.passed ∷ [];
      grows = refl;
      plan = turned_plan old.moves old.left old.passed f;
    };
  }
    where
      found : Finds
      found = finds (item.Failed c) m

      owes : recover_at noted_now Open true old.asked Finished outlet.Unpulled
      owes = subst (λ a. recover_at noted_now Open true a Finished outlet.Unpulled) (sym off) (record { moved = moved_once found.passing; own = found.passing.own })

      step : (o a : Bool) → old.over ≡ o → old.asked ≡ a → (x : InView) (y : OutView) → CallAllowed (arrives 0 (item.Failed c)) (one x y) → recover_at old Open o a x y → old.stuck ≡ false
          → ActsAllowed (seen (arrives 0 (item.Failed c)) (one x y)) [] × port_state noted_now (acted_all (seen (arrives 0 (item.Failed c)) (one x y)) [])
      step false true i j Pulled outlet.Available may r calm = absurd (let z : true ≡ false = sym j ∙ off in cc)
      step false false i j Idle outlet.Unpulled may r calm = (tt, open_state noted_now Finished outlet.Unpulled on op calm owes)
      step true false i j Finished outlet.Unpulled may r calm = absurd may
      step o a i j x y may r calm = absurd r

  abbrev given_now : Recover
  given_now = record noted_now { phase = Closed; own = None }

  pub turns_asked : (c : Cause) (u : Tree) → Meets (arrives 0 (item.Failed c)) (port_state old) → may_turn (next_move old.left) old.passed ≡ true → old.asked ≡ true → old.own ≡ Some u → Handled (arrives 0 (item.Failed c)) old (Push 0 u ∷ Complete 0 ∷ []) given_now
  turns_asked c u m f asked is = record {
    ports = obeys (arrives 0 (item.Failed c)) given_now (Push 0 u ∷ Complete 0 ∷ []) step;
    gives = record {
      turn = λ t own. turns t (arrives 0 (item.Failed c)) (own_items u) (passes old.passed) (shut (old.passed ∷ [])) (held_of given_now) (passes_now found.open_is) (ap (λ b. held_by b given_now) on ∙ ap shut (moved_once found.passing)) (refl, (tt, (refl, ap own_items (same_own u t is own))));
      own = λ k. let z : Closed ≡ Open = k in cc;
      stands = tt;
      started = λ k. let z : Closed ≡ New = k in cc;
      more = old.passed ∷ [];
      grows = refl;
      plan = turned_plan old.moves old.left old.passed f;
    };
  }
    where
      found : Finds
      found = finds (item.Failed c) m

      step : (o a : Bool) → old.over ≡ o → old.asked ≡ a → (x : InView) (y : OutView) → CallAllowed (arrives 0 (item.Failed c)) (one x y) → recover_at old Open o a x y → old.stuck ≡ false
          → ActsAllowed (seen (arrives 0 (item.Failed c)) (one x y)) (Push 0 u ∷ Complete 0 ∷ []) × port_state given_now (acted_all (seen (arrives 0 (item.Failed c)) (one x y)) (Push 0 u ∷ Complete 0 ∷ []))
      step false true i j Pulled outlet.Available may r calm = ((refl, (tt, tt)), closed_state given_now Finished outlet.Closed on refl calm tt)
      step false false i j Idle outlet.Unpulled may r calm = absurd (let z : true ≡ false = sym asked ∙ j in cc)
      step true false i j Finished outlet.Unpulled may r calm = absurd may
      step o a i j x y may r calm = absurd r

  failed_stops : (left : Option (List ℕ)) (n : ℕ) (c : Cause) → may_turn (next_move left) n ≡ false → Ahead left n → StopsFor (next_move left) n (record { list = []; end = failed c })
  failed_stops None n c f h = cc
  failed_stops (Some []) n c f h = (refl, tt)
  failed_stops (Some (k ∷ l)) n c f h = inl (refl, inr (tt, less_of k n h.0 f))

  failed_still : (left : Option (List ℕ)) (n : ℕ) (stuck : Bool) → stuck ≡ false → may_turn (next_move left) n ≡ false → StillBy (next_move left) (stuck_by (next_move left) stuck) Finished
  failed_still None n stuck calm f = cc
  failed_still (Some []) n stuck calm f = (calm, refl)
  failed_still (Some (k ∷ l)) n stuck calm f = (refl, (λ e. cc), (λ e. cc))

  pub stops_failed : (c : Cause) → Meets (arrives 0 (item.Failed c)) (port_state old) → may_turn (next_move old.left) old.passed ≡ false → Handled (arrives 0 (item.Failed c)) old [] halted
  stops_failed c m f = halts (arrives 0 (item.Failed c)) found.open_is found.passing (λ t. (refl, failed_stops old.left old.passed c f found.passing.ahead)) (obeys (arrives 0 (item.Failed c)) halted [] step)
    where
      found : Finds
      found = finds (item.Failed c) m

      step : (o a : Bool) → old.over ≡ o → old.asked ≡ a → (x : InView) (y : OutView) → CallAllowed (arrives 0 (item.Failed c)) (one x y) → recover_at old Open o a x y → old.stuck ≡ false
          → ActsAllowed (seen (arrives 0 (item.Failed c)) (one x y)) [] × port_state halted (acted_all (seen (arrives 0 (item.Failed c)) (one x y)) [])
      step o a i j x y may r calm = (tt, (op, (found.passing.unmoved, failed_still old.left old.passed old.stuck calm f)))

  -- what a failure finds: its own element is there
  pub own_there : (c : Cause) → Meets (arrives 0 (item.Failed c)) (port_state old) → old.own ≢ None
  own_there c m = (finds (item.Failed c) m).passing.own

  -- ---- the output is cancelled

  passing_at : (o a : Bool) → o ≡ false → (x : InView) (y : OutView) → recover_at old Open o a x y → Passing old
  passing_at false true e Pulled outlet.Available r = r
  passing_at false false e Idle outlet.Unpulled r = r
  passing_at true a e x y r = cc
  passing_at false a e x y r = absurd r

  passing : (v : View) → old.over ≡ false → port_state old v → Passing old
  passing v e r = by_lists v.ins v.outs r
    where
      by_lists : (xs : List InView) (ys : List OutView) → OneOneOf (recover_in old.still old) xs ys → Passing old
      by_lists (x ∷ []) (y ∷ []) r = passing_at old.over old.asked e x y (at x y r).0
      by_lists [] ys r = absurd r
      by_lists (x ∷ []) [] r = absurd r
      by_lists (x ∷ []) (y ∷ z ∷ ys) r = absurd r
      by_lists (x ∷ u ∷ xs) ys r = absurd r

  pub leaves_open : Meets (cancels 0) (port_state old) → old.over ≡ false → Handled (cancels 0) old (Cancel 0 ∷ []) closed_now
  leaves_open m e = record {
    ports = obeys (cancels 0) closed_now (Cancel 0 ∷ []) step;
    gives = record {
      turn = λ t own. turns t (cancels 0) [] (passes old.passed) (shut old.moves) (held_of closed_now) (passes_now e) (ap (λ b. held_by b closed_now) on) (refl, (passing m.0 e m.1.1).unmoved);
      own = λ k. let z : Closed ≡ Open = k in cc;
      stands = tt;
      started = λ k. let z : Closed ≡ New = k in cc;
      more = [];
      grows = sym (append-nil old.moves);
      plan = refl;
    };
  }
    where
      step : (o a : Bool) → old.over ≡ o → old.asked ≡ a → (x : InView) (y : OutView) → CallAllowed (cancels 0) (one x y) → recover_at old Open o a x y → old.stuck ≡ false
          → ActsAllowed (seen (cancels 0) (one x y)) (Cancel 0 ∷ []) × port_state closed_now (acted_all (seen (cancels 0) (one x y)) (Cancel 0 ∷ []))
      step false true i j Pulled outlet.Available may r calm = ((tt, tt), closed_state closed_now Cancelled outlet.Cancelled on refl calm tt)
      step false false i j Idle outlet.Unpulled may r calm = ((tt, tt), closed_state closed_now Cancelled outlet.Cancelled on refl calm tt)
      step true false i j Finished outlet.Unpulled may r calm = absurd (let z : true ≡ false = sym i ∙ e in cc)
      step o a i j x y may r calm = absurd r

  pub leaves_owing : Meets (cancels 0) (port_state old) → old.over ≡ true → Handled (cancels 0) old [] closed_now
  leaves_owing m e = record {
    ports = obeys (cancels 0) closed_now [] step;
    gives = record {
      turn = λ t own. turns t (cancels 0) [] (turned old.passed) (shut old.moves) (held_of closed_now) (owes_now e) (ap (λ b. held_by b closed_now) on) (refl, (owing m.0 e m.1.1).moved);
      own = λ k. let z : Closed ≡ Open = k in cc;
      stands = tt;
      started = λ k. let z : Closed ≡ New = k in cc;
      more = [];
      grows = sym (append-nil old.moves);
      plan = refl;
    };
  }
    where
      step : (o a : Bool) → old.over ≡ o → old.asked ≡ a → (x : InView) (y : OutView) → CallAllowed (cancels 0) (one x y) → recover_at old Open o a x y → old.stuck ≡ false
          → ActsAllowed (seen (cancels 0) (one x y)) [] × port_state closed_now (acted_all (seen (cancels 0) (one x y)) [])
      step true false i j Finished outlet.Unpulled may r calm = (tt, closed_state closed_now Finished outlet.Cancelled on refl calm tt)
      step false true i j Pulled outlet.Available may r calm = absurd (let z : true ≡ false = sym e ∙ i in cc)
      step false false i j Idle outlet.Unpulled may r calm = absurd (let z : true ≡ false = sym e ∙ i in cc)
      step o a i j x y may r calm = absurd r

-- ---- the start

started_at : (old : Recover) (p : Phase) (o a : Bool) (x : InView) (y : OutView) → p ≡ New → recover_at old p o a x y → old.over ≡ o → old.asked ≡ a → old.still ≡ false → old.stuck ≡ false
    → recover_in old.still (record old { phase = Open }) x y
started_at old New false false Idle outlet.Unpulled e r i j s calm =
    subst (λ b. recover_in b (record old { phase = Open }) Idle outlet.Unpulled) (sym s) (
      subst (λ o. recover_at (record old { phase = Open }) Open o old.asked Idle outlet.Unpulled) (sym i)
          (subst (λ a. recover_at (record old { phase = Open }) Open false a Idle outlet.Unpulled) (sym j) (record { unmoved = r.unmoved; own = r.own; ahead = r.ahead })),
      calm,
    )
started_at old New o a x y e r i j s calm = absurd r
started_at old Open o a x y e r i j s calm = cc
started_at old Closed o a x y e r i j s calm = cc

started_in : (old : Recover) (b : Bool) (x : InView) (y : OutView) → old.still ≡ b → old.phase ≡ New → recover_in b old x y → recover_in old.still (record old { phase = Open }) x y
started_in old false x y s e r = started_at old old.phase old.over old.asked x y e r.0 refl refl s r.1
started_in old true x y s e r = absurd (let z : New ≡ Open = sym e ∙ r.0 in cc)

new_still : (old : Recover) (b : Bool) (x : InView) (y : OutView) → old.still ≡ b → old.phase ≡ New → recover_in b old x y → old.still ≡ false
new_still old false x y s e r = s
new_still old true x y s e r = absurd (let z : New ≡ Open = sym e ∙ r.0 in cc)

new_over : (old : Recover) (p : Phase) (o a : Bool) (x : InView) (y : OutView) → p ≡ New → recover_at old p o a x y → o ≡ false
new_over old New false false Idle outlet.Unpulled e r = refl
new_over old New o a x y e r = absurd r
new_over old Open o a x y e r = cc
new_over old Closed o a x y e r = cc

-- it goes on, and its input has not failed
record News (old : Recover) : Type 0 where
  on : old.still ≡ false
  open_is : old.over ≡ false

news : (old : Recover) (v : View) → old.phase ≡ New → port_state old v → News old
news old v e r = by_lists v.ins v.outs r
  where
    by_still : (b : Bool) (x : InView) (y : OutView) → old.still ≡ b → recover_in b old x y → News old
    by_still false x y s r = record { on = s; open_is = new_over old old.phase old.over old.asked x y e r.0 }
    by_still true x y s r = absurd (let z : New ≡ Open = sym e ∙ r.0 in cc)

    by_lists : (xs : List InView) (ys : List OutView) → OneOneOf (recover_in old.still old) xs ys → News old
    by_lists (x ∷ []) (y ∷ []) r = by_still old.still x y refl r
    by_lists [] ys r = absurd r
    by_lists (x ∷ []) [] r = absurd r
    by_lists (x ∷ []) (y ∷ z ∷ ys) r = absurd r
    by_lists (x ∷ u ∷ xs) ys r = absurd r

pub begins : (old : Recover) → old.phase ≡ New → Meets starts (port_state old) → Handled starts old [] (record old { phase = Open })
begins old e m =
    let n = news old m.0 e m.1.1 in
    let was : held_of old ≡ passes old.passed = ap (λ b. held_by b old) n.on ∙ ap (λ p. held_in p old.over old.passed old.moves) e in
    let is : held_of (record old { phase = Open }) ≡ passes old.passed = ap (λ b. held_by b (record old { phase = Open })) n.on ∙ ap (λ o. held_in Open o old.passed old.moves) n.open_is in
    record {
      ports = obeys_by starts old (record old { phase = Open }) [] (λ x y may r. (tt, started_in old old.still x y refl e r));
      gives = record {
        turn = λ t own. subst (λ (h : RecoverHeld). RecoverTurnAt t starts h [] (held_of (record old { phase = Open }))) (sym was)
            (subst (λ (k : RecoverHeld). RecoverTurnAt t starts (passes old.passed) [] k) (sym is) (refl, (omega arith, refl)));
        own = λ k. refl;
        stands = tt;
        started = λ k. let z : Open ≡ New = k in cc;
        more = [];
        grows = sym (append-nil old.moves);
        plan = refl;
      };
    }
