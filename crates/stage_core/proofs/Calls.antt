-- A call keeps the law of an output: from the law before the call, and what its handler owes, to the law once its actions are done.
use Rattle.std.specs.Prelude.{◌==◌, MatchBool}
use Rattle.std.proofs.Common.{◌≡◌, ℕ, zero, suc, ◌-◌, ◌≤◌, Bool, true, false, inl, inr, List, [], ◌∷◌, ◌++◌, length, refl, sym, ap, subst, ◌∙◌, arith, append-nil, None, Some}
use Rattle.elem_core.specs.Prefix.{IsPrefix}
use Rattle.elem_core.specs.Tree.{Tree}
use Rattle.elem_core.specs.declared.item.Item.{Item}
use Rattle.elem_core.specs.declared.item.Item.TheVariants as item
use Rattle.elem_core.specs.declared.why.Cause.{Cause}
use Rattle.elem_core.proofs.Prefixes.{prefix_append, prefix_length, prefix_take, prefix_trans}
use Rattle.stream_model.specs.Outlook.{End, unended, ended, failed}
use Rattle.stream_model.specs.Machine.{State, going, done, broken, Run, Machine, Given, is_going, run, close_at, close, Fails, own_doing, at_finish, of_input, Stands}
use Rattle.stream_model.proofs.MachineLaws.{run-append, gave_prefix, stays, close_grows}
use Rattle.port_core.specs.declared.act.Act.{Act}
use Rattle.port_core.specs.declared.view.InView.{InView}
use Rattle.port_core.specs.declared.view.InView.TheVariants.{Cancelled}
use Rattle.port_core.specs.declared.view.OutView.{OutView}
use Rattle.port_core.specs.View.{View, in_at, out_at, with_in, IsInOpen, ActsAllowed, acted_all}
use Rattle.port_core.specs.Call.{Call, starts, pulls, arrives, cancels, MayCome, came, CallAllowed, seen, brought_to, given_on}
use Rattle.stage_core.specs.Held.{told, Held, owing, shut}
use Rattle.stage_core.specs.Turn.{Turn, TurnAt}
use Rattle.stage_core.specs.Law.{TookAs, GaveAs, Keeps, Law}
use Rattle.stage_core.proofs.Told.{told-append}
use Rattle.stage_core.proofs.History.{open_gives, stands_unended}
use Rattle.stage_core.proofs.Turning.{Pushed, still, element, finished, failing, dropped, dropped_at_end}
use Rattle.stage_core.proofs.Ports.{in_unended, took_acted, may_open, came_at, no_other, took_seen, gave_seen, gave_acted, gave_nothing}

module _ {S : Type 0} (m : Machine S Tree) (start : Run S Tree) where
  -- ---- an output that is closed stays right while the stage takes more

  same_run : (l k : List Tree) → is_going (run m start l).state ≡ false → run m start (l ++ k) ≡ run m start l
  same_run l k off = run-append m start l k ∙ stays m (run m start l) k off

  is_done_at : (g h : List Tree) (st : State S) → close_at m h st unended ≡ record { list = g; end = ended } → (e : End) → (is_going st ≡ false) × (close_at m h st e ≡ record { list = g; end = ended })
  is_done_at g h (going s) is e = let no_way : unended ≡ ended = ap (λ (y : Given Tree). y.end) is in cc
  is_done_at g h done is e = (refl, is)
  is_done_at g h (broken c) is e = let no_way : failed c ≡ ended = ap (λ (y : Given Tree). y.end) is in cc

  -- it failed by its own doing, whatever came then
  fails_later : (l k : List Tree) (e f : End) (g : List Tree) (c : Cause) → Fails m start l e g c → e ≡ unended → Fails m start (l ++ k) f g c
  fails_later l k e f g c (own_doing is) u =
      let same : run m start (l ++ k) ≡ run m start l = same_run l k (ap is_going is) in
      subst (λ (y : Run S Tree). Fails m start (l ++ k) f y.gave c) same (own_doing (ap (λ (y : Run S Tree). y.state) same ∙ is))
  fails_later l k _ f g c (at_finish at refusal cut) u = cc
  fails_later l k _ f g c (of_input on cut) u = cc

  -- what may have been given of a list that has not ended may have been given of a longer one, however it stands
  pub stands_later : (l k : List Tree) (e : End) (g : List Tree) (f : End) → Stands m start l unended g f → Stands m start (l ++ k) e g f
  stands_later l k e g unended s =
      let now : IsPrefix g (run m start l).gave = rw (open_gives m (run m start l).gave (run m start l).state) at s in
      prefix_trans now (prefix_trans (gave_prefix m start (prefix_append l k)) (close_grows m (run m start (l ++ k)) e))
  stands_later l k e g ended s =
      let d = is_done_at g (run m start l).gave (run m start l).state s e in
      ap (λ (x : Run S Tree). close m x e) (same_run l k d.0) ∙ d.1
  stands_later l k e g (failed c) s = fails_later l k unended e g c s refl

  -- ---- items at the end of a history

  told_given : (l : List Tree) (t : Tree) → told l unended ++ item.Elem t ∷ [] ≡ told (l ++ t ∷ []) unended
  told_given l t = sym (told-append l (t ∷ []) unended)

  told_ended : (l : List Tree) → told l unended ++ item.Ended ∷ [] ≡ told l ended
  told_ended l = sym (told-append l [] ended) ∙ ap (λ (k : List Tree). told k ended) (append-nil l)

  told_failed : (l : List Tree) (c : Cause) → told l unended ++ item.Failed c ∷ [] ≡ told l (failed c)
  told_failed l c = sym (told-append l [] (failed c)) ∙ ap (λ (k : List Tree). told k (failed c)) (append-nil l)

  -- ---- the law, with the actions done

  module _ (j : ℕ) where
    abbrev LawAt : Held S → View → List Item → List Item → Type 0
    LawAt x v took gave = Law m start x (in_at v 0) (out_at v j) took gave

    -- from what was pushed
    law_of : (new : Held S) (w : View) (took gave : List Item) (acts : List Act) (l g : List Tree) (e : End) → took ≡ told l e → gave ≡ told g unended → TookAs (in_at w 0) e → GaveAs (out_at w j) unended → ActsAllowed w acts
        → Pushed m start new l e g (given_on j acts) → LawAt new (acted_all w acts) took (gave ++ given_on j acts)
    law_of new w took gave acts l g e took_is gave_is took_as gave_as allowed p = record {
      in_list = l;
      in_end = e;
      out_list = g ++ p.list;
      out_end = p.end;
      took_is = took_is;
      gave_is = ap (λ (is : List Item). is ++ given_on j acts) gave_is ∙ ap (λ (is : List Item). told g unended ++ is) p.out_is ∙ sym (told-append g p.list p.end);
      took_as = took_acted acts w 0 e allowed took_as;
      gave_as = gave_acted j acts w p.list p.end p.out_is allowed gave_as;
      keeps = p.keeps;
    }

    -- from nothing that was given, where the output is closed
    law_shut : (w : View) (took gave : List Item) (acts : List Act) (l g : List Tree) (e f : End) → took ≡ told l e → gave ≡ told g f → TookAs (in_at w 0) e → GaveAs (out_at w j) f → ActsAllowed w acts
        → given_on j acts ≡ [] → Stands m start l e g f → LawAt shut (acted_all w acts) took (gave ++ given_on j acts)
    law_shut w took gave acts l g e f took_is gave_is took_as gave_as allowed none stands = record {
      in_list = l;
      in_end = e;
      out_list = g;
      out_end = f;
      took_is = took_is;
      gave_is = ap (λ (is : List Item). gave ++ is) none ∙ append-nil gave ∙ gave_is;
      took_as = took_acted acts w 0 e allowed took_as;
      gave_as = gave_nothing j acts w f none allowed gave_as;
      keeps = stands;
    }

    gave_before : (x : Run S Tree) (v : View) (took gave : List Item) → (law : LawAt (owing x) v took gave) → gave ≡ told law.out_list unended
    gave_before x v took gave law = law.gave_is ∙ ap (λ (f : End). told law.out_list f) law.keeps.0

    kept_before : (x : Run S Tree) (v : View) (took gave : List Item) → (law : LawAt (owing x) v took gave) → Keeps m start (owing x) law.in_list law.in_end law.out_list unended
    kept_before x v took gave law = (refl, law.keeps.1)

    open_before : (x : Run S Tree) (v : View) (took gave : List Item) → (law : LawAt (owing x) v took gave) → GaveAs (out_at v j) unended
    open_before x v took gave law = rw law.keeps.0 at law.gave_as

    -- what was kept, where the input has not ended
    kept_open : (x : Run S Tree) (v : View) (took gave : List Item) → (law : LawAt (owing x) v took gave) → law.in_end ≡ unended → Keeps m start (owing x) law.in_list unended law.out_list unended
    kept_open x v took gave law u = subst (λ (e : End). Keeps m start (owing x) law.in_list e law.out_list unended) u (kept_before x v took gave law)

    -- a call that brings nothing, which is no cancel of this output
    quiet_law : (call : Call) (x : Run S Tree) (new : Held S) (v : View) (took gave : List Item) (acts : List Act) → brought_to 0 call ≡ [] → ((i : ℕ) (b : Item) → call ≡ arrives i b → ⊥) → CallAllowed call v → ActsAllowed (seen call v) acts
        → Turn m x None (given_on j acts) new → (law : LawAt (owing x) v took gave) → LawAt new (acted_all (seen call v) acts) (took ++ brought_to 0 call) (gave ++ given_on j acts)
    quiet_law call x new v took gave acts none quiet may allowed turn law =
        law_of new (seen call v) (took ++ brought_to 0 call) gave acts law.in_list law.out_list law.in_end
        (ap (λ (is : List Item). took ++ is) none ∙ append-nil took ∙ law.took_is) (gave_before x v took gave law)
        (took_seen call v 0 law.in_end may quiet law.took_as) (gave_seen call v j unended may (open_before x v took gave law)) allowed
        (still m start x law.in_list law.in_end law.out_list (given_on j acts) new turn (kept_before x v took gave law))

    -- a cancel of this output
    cancel_law : (call : Call) (x : Run S Tree) (new : Held S) (v : View) (took gave : List Item) (acts : List Act) → brought_to 0 call ≡ [] → ((i : ℕ) (b : Item) → call ≡ arrives i b → ⊥) → CallAllowed call v → ActsAllowed (seen call v) acts
        → given_on j acts ≡ [] → new ≡ shut → (law : LawAt (owing x) v took gave) → LawAt new (acted_all (seen call v) acts) (took ++ brought_to 0 call) (gave ++ given_on j acts)
    cancel_law call x new v took gave acts none quiet may allowed given over law =
        rw over (law_shut (seen call v) (took ++ brought_to 0 call) gave acts law.in_list law.out_list law.in_end unended
        (ap (λ (is : List Item). took ++ is) none ∙ append-nil took ∙ law.took_is) (gave_before x v took gave law)
        (took_seen call v 0 law.in_end may quiet law.took_as) (gave_seen call v j unended may (open_before x v took gave law)) allowed
        given (stands_unended m start x law.in_list law.in_end law.out_list law.keeps.1.0))

    -- an output that is closed, and a call that brings nothing
    shut_law : (call : Call) (new : Held S) (v : View) (took gave : List Item) (acts : List Act) → brought_to 0 call ≡ [] → ((i : ℕ) (b : Item) → call ≡ arrives i b → ⊥) → CallAllowed call v → ActsAllowed (seen call v) acts
        → given_on j acts ≡ [] → new ≡ shut → (law : LawAt shut v took gave) → LawAt new (acted_all (seen call v) acts) (took ++ brought_to 0 call) (gave ++ given_on j acts)
    shut_law call new v took gave acts none quiet may allowed given over law =
        rw over (law_shut (seen call v) (took ++ brought_to 0 call) gave acts law.in_list law.out_list law.in_end law.out_end
        (ap (λ (is : List Item). took ++ is) none ∙ append-nil took ∙ law.took_is) law.gave_is
        (took_seen call v 0 law.in_end may quiet law.took_as) (gave_seen call v j law.out_end may law.gave_as) allowed
        given law.keeps)

    -- an item came: what was taken, with the item
    record Came (b : Item) (l : List Tree) : Type 0 where
      list : List Tree
      end : End
      is : told l unended ++ b ∷ [] ≡ told list end
      as_known : TookAs (came b) end
      more : List Tree
      list_is : list ≡ l ++ more

    abbrev with_item : (b : Item) (l : List Tree) → Came b l
    with_item (item.Elem t) l = record { list = l ++ t ∷ []; end = unended; is = told_given l t; as_known = refl; more = t ∷ []; list_is = refl }
    with_item item.Ended l = record { list = l; end = ended; is = told_ended l; as_known = tt; more = []; list_is = sym (append-nil l) }
    with_item (item.Failed c) l = record { list = l; end = failed c; is = told_failed l c; as_known = tt; more = []; list_is = sym (append-nil l) }

    took_with : (b : Item) (took : List Item) (l : List Tree) (e : End) (w : Came b l) → took ≡ told l e → e ≡ unended → took ++ b ∷ [] ≡ told w.list w.end
    took_with b took l e w is u = ap (λ (k : List Item). k ++ b ∷ []) (is ∙ ap (λ (f : End). told l f) u) ∙ w.is

    pushed_by : (b : Item) (x : Run S Tree) (new : Held S) (l g : List Tree) (out : List Item) → Turn m x (Some b) out new → Keeps m start (owing x) l unended g unended → Pushed m start new (with_item b l).list (with_item b l).end g out
    pushed_by (item.Elem t) x new l g out turn k = element m start x t l g out new turn.0 turn.1 k
    pushed_by item.Ended x new l g out (inl h) k = finished m start x l g out new h k
    pushed_by item.Ended x new l g out (inr h) k = dropped_at_end m start x l g out new h k
    pushed_by (item.Failed c) x new l g out (inl h) k = failing m start x c l g out new h k
    pushed_by (item.Failed c) x new l g out (inr h) k = dropped m start x c l g out new h k

    known_at : (b : Item) (v : View) (e : End) → MayCome b (in_at v 0) → TookAs (came b) e → TookAs (in_at (with_in v 0 (came b)) 0) e
    known_at b v e may t = rw (came_at b v 0 may) t

    item_law : (b : Item) (x : Run S Tree) (new : Held S) (v : View) (took gave : List Item) (acts : List Act) → MayCome b (in_at v 0) → ActsAllowed (with_in v 0 (came b)) acts
        → Turn m x (Some b) (given_on j acts) new → (law : LawAt (owing x) v took gave) → LawAt new (acted_all (with_in v 0 (came b)) acts) (took ++ b ∷ []) (gave ++ given_on j acts)
    item_law b x new v took gave acts may allowed turn law =
        let u : law.in_end ≡ unended = in_unended (in_at v 0) law.in_end (may_open b (in_at v 0) may) law.took_as in
        let w = with_item b law.in_list in
        law_of new (with_in v 0 (came b)) (took ++ b ∷ []) gave acts w.list law.out_list w.end
        (took_with b took law.in_list law.in_end w law.took_is u) (gave_before x v took gave law)
        (known_at b v w.end may w.as_known) (open_before x v took gave law) allowed
        (pushed_by b x new law.in_list law.out_list (given_on j acts) turn (kept_open x v took gave law u))

    item_shut : (b : Item) (new : Held S) (v : View) (took gave : List Item) (acts : List Act) → MayCome b (in_at v 0) → ActsAllowed (with_in v 0 (came b)) acts
        → given_on j acts ≡ [] → new ≡ shut → (law : LawAt shut v took gave) → LawAt new (acted_all (with_in v 0 (came b)) acts) (took ++ b ∷ []) (gave ++ given_on j acts)
    item_shut b new v took gave acts may allowed given over law =
        let u : law.in_end ≡ unended = in_unended (in_at v 0) law.in_end (may_open b (in_at v 0) may) law.took_as in
        let w = with_item b law.in_list in
        let kept : Stands m start law.in_list unended law.out_list law.out_end = subst (λ (e : End). Stands m start law.in_list e law.out_list law.out_end) u law.keeps in
        let later : Stands m start w.list w.end law.out_list law.out_end =
        subst (λ (l : List Tree). Stands m start l w.end law.out_list law.out_end) (sym w.list_is) (stands_later law.in_list w.more w.end law.out_list law.out_end kept) in
        rw over (law_shut (with_in v 0 (came b)) (took ++ b ∷ []) gave acts w.list law.out_list w.end law.out_end
        (took_with b took law.in_list law.in_end w law.took_is u) law.gave_is
        (known_at b v w.end may w.as_known) law.gave_as allowed given later)

    -- no item comes to an input that is not there
    no_item : (b : Item) (v : View) (i : ℕ) → length v.ins ≡ 1 → MayCome b (in_at v (suc i)) → ⊥
    no_item b v i one may =
        let open_here : IsInOpen (in_at v (suc i)) = may_open b (in_at v (suc i)) may in
        let on : IsInOpen Cancelled = rw (no_other v.ins i one) at open_here in
        on

    -- one call, at a stage with one input
    pub call_law : (call : Call) (old new : Held S) (v : View) (took gave : List Item) (acts : List Act) → length v.ins ≡ 1 → CallAllowed call v → ActsAllowed (seen call v) acts
        → TurnAt m j call old (given_on j acts) new → LawAt old v took gave → LawAt new (acted_all (seen call v) acts) (took ++ brought_to 0 call) (gave ++ given_on j acts)
    call_law starts (owing x) new v took gave acts one may allowed turn law = quiet_law starts x new v took gave acts refl (λ i b e. cc) may allowed turn law
    call_law (pulls k) (owing x) new v took gave acts one may allowed turn law = quiet_law (pulls k) x new v took gave acts refl (λ i b e. cc) may allowed turn law
    call_law (cancels k) (owing x) new v took gave acts one may allowed turn law = by_output (k == j) turn
      where
        by_output : (b : Bool) → MatchBool b ((given_on j acts ≡ []) × (new ≡ shut)) (Turn m x None (given_on j acts) new) → LawAt new (acted_all (seen (cancels k) v) acts) (took ++ []) (gave ++ given_on j acts)
        by_output true h = cancel_law (cancels k) x new v took gave acts refl (λ i b e. cc) may allowed h.0 h.1 law
        by_output false h = quiet_law (cancels k) x new v took gave acts refl (λ i b e. cc) may allowed h law
    call_law (arrives zero b) (owing x) new v took gave acts one may allowed turn law = item_law b x new v took gave acts may allowed turn law
    call_law (arrives (suc i) b) (owing x) new v took gave acts one may allowed turn law = absurd (no_item b v i one may)
    call_law starts shut new v took gave acts one may allowed turn law = shut_law starts new v took gave acts refl (λ i b e. cc) may allowed turn.0 turn.1 law
    call_law (pulls k) shut new v took gave acts one may allowed turn law = shut_law (pulls k) new v took gave acts refl (λ i b e. cc) may allowed turn.0 turn.1 law
    call_law (cancels k) shut new v took gave acts one may allowed turn law = shut_law (cancels k) new v took gave acts refl (λ i b e. cc) may allowed turn.0 turn.1 law
    call_law (arrives zero b) shut new v took gave acts one may allowed turn law = item_shut b new v took gave acts may allowed turn.0 turn.1 law
    call_law (arrives (suc i) b) shut new v took gave acts one may allowed turn law = absurd (no_item b v i one may)

  -- before anything came; a machine that may lose outputs owes none at its start
  pub new_law : (i : InView) (o : OutView) → TookAs i unended → GaveAs o unended → (1 ≤ m.hold → start.gave ≡ []) → Law m start (owing start) i o [] []
  new_law i o took_as gave_as none = record {
    in_list = [];
    in_end = unended;
    out_list = [];
    out_end = unended;
    took_is = refl;
    gave_is = refl;
    took_as = took_as;
    gave_as = gave_as;
    keeps = (refl, (refl, λ on one. let n = ap length (none one) in let p = prefix_length (gave_prefix m start (prefix_take (0 - m.hold) [])) in omega (arith, n, p)));
  }
