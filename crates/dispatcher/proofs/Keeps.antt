-- Each step keeps the rule.
use Rattle.std.proofs.Common.{◌≡◌, ℕ, zero, suc, ◌+◌, ◌-◌, ◌/◌, ◌%◌, ◌<◌, ◌≤◌, ◌≢◌, ◌⊎◌, eqb, List, [], ◌∷◌, ◌++◌, length, get_or, set, sym, refl, ap, ◌∙◌, subst, inl, inr, ⊎_elim, arith, length-set, get_or-set_other, get_or-set_same, Option, None, Some, bit_and, bit_or}
use mathlib.Core.Logic.{dite}
use mathlib.Core.Option.{Option as Maybe, none, some}
use native.Mathlib.Decide.{ℕ_discrete}
use lib.ListN.{get_elem?}
use prog.Atomic.{either}
use Rattle.atomic_table.specs.Table.{State, step, Act, keeps, takes, gives, Valid, carried_after, stepped, Allows, Splits, Joins}
use Rattle.atomic_table.proofs.Lists.{at_set, set_here, set_else, at_snoc, exchanged}
use Rattle.dispatcher.specs.Sums.{total, times, latest, without}
use Rattle.dispatcher.specs.Table.{hold, turns_begun, Orderly, Sat, woken, turn_begun, turn_left, fetched, turn_ended}
use Rattle.dispatcher.specs.declared.hold.Hold.{Hold}
use Rattle.dispatcher.proofs.Totals.{total-append, total-set, term_le, terms_le, times_here, times_else, times-append, latest_here, latest_else, without_here, without_else}

or_bits : (x : ℕ) → x < 4 → (bit_or x 1 < 4) × ((bit_or x 1 / 2 ≡ x / 2) × (bit_or x 1 % 2 ≡ 1))
or_bits zero h = (omega arith, (refl, refl))
or_bits (suc zero) h = (omega arith, (refl, refl))
or_bits (suc (suc zero)) h = (omega arith, (refl, refl))
or_bits (suc (suc (suc zero))) h = (omega arith, (refl, refl))
or_bits (suc (suc (suc (suc x)))) h = absurd (omega arith)

and_bits : (x : ℕ) → x < 4 → (bit_and x 18446744073709551613 < 4) × ((bit_and x 18446744073709551613 / 2 ≡ 0) × (bit_and x 18446744073709551613 % 2 ≡ x % 2))
and_bits zero h = (omega arith, (refl, refl))
and_bits (suc zero) h = (omega arith, (refl, refl))
and_bits (suc (suc zero)) h = (omega arith, (refl, refl))
and_bits (suc (suc (suc zero))) h = (omega arith, (refl, refl))
and_bits (suc (suc (suc (suc x)))) h = absurd (omega arith)

module _ {T : Type 0} (fits : ℕ → T → Type 0) (n seats : ℕ) where
  abbrev St : Type 0
  St = State (Option T) Hold

  abbrev O : St → Type 0
  O = Orderly fits n seats

  -- what a step at i on one view says of wakes: no turn of another place began and no other place was woken; a wake is not
  -- ahead of the turns that began; and READY is set where it was a wake, and stays where no turn began
  record Wakeful (s : St) (i new id : ℕ) (v w : Hold) : Type 0 where
    more : times i v.began ≤ times i w.began
    turns_else : (k : ℕ) → k ≢ i → times k w.began ≡ times k v.began
    woke_else : (k : ℕ) → k ≢ i → latest k w.woke ≡ latest k v.woke
    within : latest i w.woke ≤ suc (turns_begun i (set s.views id w))
    mine : latest i w.woke ≡ suc (turns_begun i (set s.views id w)) → new % 2 ≡ 1
    stays : times i w.began ≡ times i v.began → get_or s.words i 0 % 2 ≡ 1 → new % 2 ≡ 1

  turns_after : (k : ℕ) (s : St) (id : ℕ) (v w : Hold) → get_elem? s.views id ≡ some v → turns_begun k (set s.views id w) + times k v.began ≡ turns_begun k s.views + times k w.began
  turns_after k s id v w me = total-set (λ (u : Hold). times k u.began) s.views id v w me

  -- a step that begins no turn, is no wake, and leaves READY as it was
  as_before : (s : St) (o : O s) (i new id : ℕ) (v w : Hold) → i < n → get_elem? s.views id ≡ some v → w.began ≡ v.began → w.woke ≡ v.woke → (get_or s.words i 0 % 2 ≡ 1 → new % 2 ≡ 1) → Wakeful s i new id v w
  as_before s o i new id v w near me began woke keep =
      let same : (k : ℕ) → times k w.began ≡ times k v.began = λ k. ap (times k) began in let wakes : (k : ℕ) → latest k w.woke ≡ latest k v.woke = λ k. ap (latest k) woke in
      let turns : turns_begun i (set s.views id w) ≡ turns_begun i s.views = (let sum = turns_after i s id v w me in let eq = same i in omega arith) in
      record {
        more = let eq = same i in omega arith;
        turns_else = λ k ne. same k;
        woke_else = λ k ne. wakes k;
        within = let was = o.past id v i me near in let eq = wakes i in omega arith;
        mine = λ is. keep (o.ready id v i me near (sym (wakes i) ∙ is ∙ ap suc turns));
        stays = λ _ odd. keep odd;
      }

  module _ (s : St) (o : O s) (i new id : ℕ) (v w : Hold) (near : i < n) (me : get_elem? s.views id ≡ some v) (wakeful : Wakeful s i new id v w) (j : ℕ) (u : Hold) where
    -- the view at j, which is new or as it was
    abbrev Seen : Type 0
    Seen = ((j ≡ id) × (w ≡ u)) ⊎ ((j ≢ id) × (get_elem? s.views j ≡ some u))

    past_here : Seen → latest i u.woke ≤ suc (turns_begun i (set s.views id w))
    past_here view = let sum = turns_after i s id v w me in let more = wakeful.more in ⊎_elim
        (λ t. subst (λ (y : Hold). latest i y.woke ≤ suc (turns_begun i (set s.views id w))) t.1 wakeful.within)
        (λ t. let was = o.past j u i t.1 near in omega arith)
        view

    past_else : (k : ℕ) → k < n → k ≢ i → Seen → latest k u.woke ≤ suc (turns_begun k (set s.views id w))
    past_else k h ne view = let sum = turns_after k s id v w me in let eq = wakeful.turns_else k ne in ⊎_elim
        (λ t. let is : latest k w.woke ≡ latest k u.woke = ap (λ (y : Hold). latest k y.woke) t.1 in let same = wakeful.woke_else k ne in let was = o.past id v k me h in omega arith)
        (λ t. let was = o.past j u k t.1 h in omega arith)
        view

    -- no wake is ahead of the turns that began
    past_by : (k : ℕ) → k < n → Seen → latest k u.woke ≤ suc (turns_begun k (set s.views id w))
    past_by k h view = dite (ℕ_discrete k i) (λ is. subst (λ (y : ℕ). latest y u.woke ≤ suc (turns_begun y (set s.views id w))) (sym is) (past_here view)) (λ ne. past_else k h ne view)

    ready_here : Seen → latest i u.woke ≡ suc (turns_begun i (set s.views id w)) → new % 2 ≡ 1
    ready_here view is = let sum = turns_after i s id v w me in let more = wakeful.more in ⊎_elim
        (λ t. wakeful.mine (ap (λ (y : Hold). latest i y.woke) t.1 ∙ is))
        (λ t. let was = o.past j u i t.1 near in
        let same : times i w.began ≡ times i v.began = omega arith in
        let level : latest i u.woke ≡ suc (turns_begun i s.views) = omega arith in
        wakeful.stays same (o.ready j u i t.1 near level))
        view

    ready_else : (k : ℕ) → k < n → k ≢ i → Seen → latest k u.woke ≡ suc (turns_begun k (set s.views id w)) → get_or s.words k 0 % 2 ≡ 1
    ready_else k h ne view is = let sum = turns_after k s id v w me in let eq = wakeful.turns_else k ne in ⊎_elim
        (λ t. let same : latest k w.woke ≡ latest k u.woke = ap (λ (y : Hold). latest k y.woke) t.1 in let old = wakeful.woke_else k ne in
        let level : latest k v.woke ≡ suc (turns_begun k s.views) = omega arith in
        o.ready id v k me h level)
        (λ t. let level : latest k u.woke ≡ suc (turns_begun k s.views) = omega arith in o.ready j u k t.1 h level)
        view

    -- where no turn began since a wake, READY is set
    ready_by : (k : ℕ) → k < n → Seen → latest k u.woke ≡ suc (turns_begun k (set s.views id w)) → get_or (set s.words i new) k 0 % 2 ≡ 1
    ready_by k h view is =
        let wide = o.wide in
        let at_i : get_or (set s.words i new) i 0 ≡ new = get_or-set_same s.words i new 0 (omega arith) in
        dite (ℕ_discrete k i)
        (λ at. subst (λ (y : ℕ). get_or (set s.words i new) y 0 % 2 ≡ 1) (sym at) (ap (λ (y : ℕ). y % 2) at_i ∙ ready_here view (subst (λ (y : ℕ). latest y u.woke ≡ suc (turns_begun y (set s.views id w))) at is)))
        (λ ne. ap (λ (y : ℕ). y % 2) (get_or-set_other s.words i k new 0 ne) ∙ ready_else k h ne view is)

  -- one word, what its slot has and one view change
  moved : (s : St) (o : O s) (i new id : ℕ) (v w : Hold) (hs : List (Maybe (Option T)))
      → i < n → new < 4 → get_elem? s.views id ≡ some v
      → w.parts ≡ v.parts → (v.parts ≡ 0 → w.held ≡ [])
      → times i w.held + get_or s.words i 0 / 2 ≡ times i v.held + new / 2
      → ((k : ℕ) → k ≢ i → times k w.held ≡ times k v.held)
      → ((k : ℕ) → k ≢ i → v.out ≢ suc k)
      → length hs ≡ n → ((k : ℕ) → k ≢ i → get_elem? hs k ≡ get_elem? s.homes k)
      → (new / 2 ≡ 0 → (x : T) × (get_elem? hs i ≡ some (some (Some x))) × fits i x)
      → (0 < times i w.held → w.out ≢ suc i → get_elem? hs i ≡ some (some None))
      → ((get_elem? hs i ≡ get_elem? s.homes i) ⊎ (0 < times i v.held + times i w.held))
      → Wakeful s i new id v w
      → O (record { words = set s.words i new; homes = hs; views = set s.views id w })
  moved s o i new id v w hs near small me parts idle here else out long others home lent alone wakeful =
      let wide = o.wide in
      let at_i : get_or (set s.words i new) i 0 ≡ new = get_or-set_same s.words i new 0 (omega arith) in
      let at_k : (k : ℕ) → k ≢ i → get_or (set s.words i new) k 0 ≡ get_or s.words k 0 = λ k ne. get_or-set_other s.words i k new 0 ne in
      record {
        wide = length-set s.words i new ∙ o.wide;
        slots = long;
        low = λ k h. dite (ℕ_discrete k i) (λ e. subst (λ (j : ℕ). get_or (set s.words i new) j 0 < 4) (sym e) (subst (λ (y : ℕ). y < 4) (sym at_i) small)) (λ ne. subst (λ (y : ℕ). y < 4) (sym (at_k k ne)) (o.low k h));
        once = λ k h. let sum = total-set (λ (u : Hold). times k u.held) s.views id v w me in let was = o.once k h in dite (ℕ_discrete k i)
            (λ e. subst (λ (j : ℕ). total (λ (u : Hold). times j u.held) (set s.views id w) ≡ get_or (set s.words i new) j 0 / 2) (sym e)
            (let sum' = total-set (λ (u : Hold). times i u.held) s.views id v w me in let was' = o.once i near in omega (arith, ap (λ (y : ℕ). y / 2) at_i)))
            (λ ne. let eq = else k ne in omega (arith, ap (λ (y : ℕ). y / 2) (at_k k ne)));
        home = λ k h e. dite (ℕ_discrete k i)
            (λ is. subst (λ (j : ℕ). (x : T) × (get_elem? hs j ≡ some (some (Some x))) × fits j x) (sym is) (home (ap (λ (y : ℕ). y / 2) (sym at_i) ∙ subst (λ (j : ℕ). get_or (set s.words i new) j 0 / 2 ≡ 0) is e)))
            (λ ne. let t = o.home k h (ap (λ (y : ℕ). y / 2) (sym (at_k k ne)) ∙ e) in (t.0, others k ne ∙ t.1, t.2));
        lent = λ j u k e h some_turn far. ⊎_elim
            (λ t. let is : w ≡ u = t.1 in let some_w : 0 < times k w.held = subst (λ (z : Hold). 0 < times k z.held) (sym is) some_turn in let far_w : w.out ≢ suc k = subst (λ (z : Hold). z.out ≢ suc k) (sym is) far in
            dite (ℕ_discrete k i)
            (λ at. subst (λ (y : ℕ). get_elem? hs y ≡ some (some None)) (sym at) (lent (subst (λ (y : ℕ). 0 < times y w.held) at some_w) (subst (λ (y : ℕ). w.out ≢ suc y) at far_w)))
            (λ ne. others k ne ∙ o.lent id v k me h (subst (λ (y : ℕ). 0 < y) (else k ne) some_w) (out k ne)))
            (λ t. dite (ℕ_discrete k i)
            (λ at. subst (λ (y : ℕ). get_elem? hs y ≡ some (some None)) (sym at)
            (let some_i : 0 < times i u.held = subst (λ (y : ℕ). 0 < times y u.held) at some_turn in
            ⊎_elim (λ unchanged. unchanged ∙ o.lent j u i t.1 near some_i (subst (λ (y : ℕ). u.out ≢ suc y) at far))
            (λ both. absurd (
            let before = terms_le (λ (z : Hold). times i z.held) s.views id j v u t.0 me t.1 in let was = o.once i near in let is_low = o.low i near in
            let after = total-set (λ (z : Hold). times i z.held) s.views id v w me in
            omega arith))
            alone))
            (λ ne. others k ne ∙ o.lent j u k t.1 h some_turn far))
            (at_set s.views id j w u e);
        past = λ j u k e h. past_by s o i new id v w near me wakeful j u k h (at_set s.views id j w u e);
        ready = λ j u k e h is. ready_by s o i new id v w near me wakeful j u k h (at_set s.views id j w u e) is;
        parts = let sum = total-set (λ (u : Hold). u.parts) s.views id v w me in let was = o.parts in omega arith;
        idle = λ j u e none_left. ⊎_elim
            (λ t. subst (λ (z : Hold). z.held ≡ []) t.1 (idle (sym parts ∙ subst (λ (z : Hold). z.parts ≡ 0) (sym t.1) none_left)))
            (λ t. o.idle j u t.1 none_left)
            (at_set s.views id j w u e);
      }

  -- a step at which only the seat's slot changes
  still : (s : St) (o : O s) (i id : ℕ) (v w : Hold) (hs : List (Maybe (Option T))) → i < n → get_elem? s.views id ≡ some v
      → w.parts ≡ v.parts → w.held ≡ v.held → w.began ≡ v.began → w.woke ≡ v.woke → ((k : ℕ) → k ≢ i → v.out ≢ suc k) → 0 < times i v.held
      → length hs ≡ n → ((k : ℕ) → k ≢ i → get_elem? hs k ≡ get_elem? s.homes k) → (w.out ≢ suc i → get_elem? hs i ≡ some (some None))
      → O (record { words = set s.words i (get_or s.words i 0); homes = hs; views = set s.views id w })
  still s o i id v w hs near me parts held began woke out some_turn long others lent =
      let mine : times i w.held ≡ times i v.held = ap (times i) held in
      moved s o i (get_or s.words i 0) id v w hs near (o.low i near) me parts (λ none_left. held ∙ o.idle id v me none_left) (ap (λ (y : ℕ). y + get_or s.words i 0 / 2) mine)
      (λ k ne. ap (times k) held) out long others
      (λ clear. absurd (let was = o.once i near in let part = term_le (λ (z : Hold). times i z.held) s.views id v me in omega arith))
      (λ some_w far. lent far) (inr (omega arith)) (as_before s o i (get_or s.words i 0) id v w near me began woke (λ odd. odd))

  unmoved : (s : St) (o : O s) (i id : ℕ) (v : Hold) (found : List (ℕ × ℕ)) → i < n → get_elem? s.views id ≡ some v → v.out ≡ 0
      → O (record { words = set s.words i (get_or s.words i 0); homes = s.homes; views = set s.views id (hold v.parts v.held v.out found v.began v.woke) })
  unmoved s o i id v found near me out = moved s o i (get_or s.words i 0) id v (hold v.parts v.held v.out found v.began v.woke) s.homes near (o.low i near) me refl (o.idle id v me) refl (λ k ne. refl)
      (λ k ne e. absurd (omega arith)) o.slots (λ k ne. refl) (o.home i near) (λ some_turn far. o.lent id v i me near some_turn far) (inl refl)
      (as_before s o i (get_or s.words i 0) id v (hold v.parts v.held v.out found v.began v.woke) near me refl refl (λ odd. odd))

  pub wakes : (slots id : ℕ) (m : Sat T) (i : ℕ) → i < n → m.0.out ≡ 0 → Allows O slots id m i (λ y. bit_or y 1) (woken (step slots i 1 0 none) m)
  wakes slots id m i near out s o wide me small = let x : ℕ = get_or s.words i 0 in let bits = or_bits x (o.low i near) in let b : ℕ = turns_begun i s.views in
      let w : Hold = hold m.0.parts m.0.held m.0.out ((i, x) ∷ m.0.found) m.0.began ((i, b) ∷ m.0.woke) in let sum = turns_after i s id m.0 w me in (
        w,
        keeps,
        tt,
        moved s o i (bit_or x 1) id m.0 w s.homes near bits.0 me refl (o.idle id m.0 me) (ap (λ (y : ℕ). times i m.0.held + y) (sym bits.1.0)) (λ k ne. refl)
            (λ k ne e. absurd (omega arith)) o.slots (λ k ne. refl) (λ clear. o.home i near (sym bits.1.0 ∙ clear)) (λ some_turn far. o.lent id m.0 i me near some_turn far) (inl refl)
            (record {
              more = omega arith;
              turns_else = λ k ne. refl;
              woke_else = λ k ne. latest_else k i b m.0.woke ne;
              within = let here = latest_here i b m.0.woke in omega arith;
              mine = λ is. bits.1.1;
              stays = λ e odd. bits.1.1;
            }),
        (b, refl),
      )

  pub begins : (told : ℕ → T → Type 0) (slots id : ℕ) (m : Sat T) (i : ℕ) → i < n → m.0.out ≡ 0 → 0 < m.0.parts → ((x : T) → fits i x → told i x)
      → Allows O slots id m i (λ y. either (eqb y 1) 2 y) (turn_begun told (step slots i 1 2 none) m)
  begins told slots id m i near out part tell s o wide me small =
      let G : ℕ → Type 0 = λ k. (w : Hold) × (a : Act (Option T)) × Valid s.homes m.1 a × O (stepped s i k id m.1 w a) × turn_begun told (step slots i 1 2 none) m (get_or s.words i 0) (w, carried_after m.1 a) in
      exchanged (get_or s.words i 0) 1 2 G
      (λ hit. let t = o.home i near (omega (arith, hit)) in let was = o.once i near in let w : Hold = hold m.0.parts (i ∷ m.0.held) (suc i) ((i, get_or s.words i 0) ∷ m.0.found) (i ∷ m.0.began) m.0.woke in let here = times_here i m.0.held in let one = times_here i m.0.began in
      let sum = turns_after i s id m.0 w me in let past = o.past id m.0 i me near in (
        w,
        takes i (Some t.0),
        t.1,
        moved s o i 2 id m.0 w (set s.homes i none) near (omega arith) me refl (λ none_left. absurd (omega arith)) (omega arith) (λ k ne. times_else k i m.0.held ne)
            (λ k ne e. absurd (omega arith)) (length-set s.homes i none ∙ o.slots) (λ k ne. set_else s.homes i k none ne) (λ clear. absurd (omega arith)) (λ some_turn far. absurd (far refl)) (inr (omega arith))
            (record {
              more = omega arith;
              turns_else = λ k ne. times_else k i m.0.began ne;
              woke_else = λ k ne. refl;
              within = omega arith;
              mine = λ is. absurd (omega arith);
              stays = λ same odd. absurd (omega arith);
            }),
        ((λ _. (t.0, refl, tell t.0 t.2)), λ miss. absurd (miss hit)),
      ))
      (λ miss. (hold m.0.parts m.0.held m.0.out ((i, get_or s.words i 0) ∷ m.0.found) m.0.began m.0.woke, keeps, tt, unmoved s o i id m.0 ((i, get_or s.words i 0) ∷ m.0.found) near me out, ((λ hit. absurd (miss hit)), λ _. refl)))

  pub leaves : (slots id : ℕ) (v : Hold) (i : ℕ) (more : List (ℕ × Option T)) → i < n → v.out ≡ suc i → 0 < times i v.held
      → Allows O slots id (v, (i, None) ∷ more) i (λ y. y) (turn_left (step slots i 0 0 none) (v, (i, None) ∷ more))
  leaves slots id v i more near out some_turn s o wide me small = let long = o.slots in (
    hold v.parts v.held 0 v.found v.began v.woke,
    gives,
    tt,
    still s o i id v (hold v.parts v.held 0 v.found v.began v.woke) (set s.homes i (some None)) near me refl refl refl refl (λ k ne e. ne (omega arith)) some_turn (length-set s.homes i (some None) ∙ o.slots)
        (λ k ne. set_else s.homes i k (some None) ne) (λ far. set_here s.homes i (some None) (omega arith)),
    refl,
  )

  pub fetches : (slots id : ℕ) (m : Sat T) (i : ℕ) → i < n → m.0.out ≡ 0 → 0 < times i m.0.held → Allows O slots id m i (λ y. y) (fetched (step slots i 0 0 none) m)
  fetches slots id m i near out some_turn s o wide me small = let w : Hold = hold m.0.parts m.0.held (suc i) m.0.found m.0.began m.0.woke in (
    w,
    takes i None,
    o.lent id m.0 i me near some_turn (λ e. omega arith),
    still s o i id m.0 w (set s.homes i none) near me refl refl refl refl (λ k ne e. absurd (omega arith)) some_turn (length-set s.homes i none ∙ o.slots)
        (λ k ne. set_else s.homes i k none ne) (λ far. absurd (far refl)),
    refl,
  )

  pub ends : (slots id : ℕ) (v : Hold) (i : ℕ) (x : T) (more : List (ℕ × Option T)) → i < n → v.out ≡ suc i → 0 < times i v.held → fits i x
      → Allows O slots id (v, (i, Some x) ∷ more) i (λ y. bit_and y 18446744073709551613) (turn_ended (step slots i 18446744073709551613 0 none) (v, (i, Some x) ∷ more))
  ends slots id v i x more near out some_turn fit s o wide me small =
      let long = o.slots in let y : ℕ = get_or s.words i 0 in let bits = and_bits y (o.low i near) in let w : Hold = hold v.parts (without i v.held) 0 ((i, y) ∷ v.found) v.began v.woke in
      let fewer = without_here i v.held some_turn in let was = o.once i near in let low = o.low i near in let mine = term_le (λ (z : Hold). times i z.held) s.views id v me in
      let here = set_here s.homes i (some (Some x)) (omega arith) in (
        w,
        gives,
        tt,
        moved s o i (bit_and y 18446744073709551613) id v w (set s.homes i (some (Some x))) near bits.0 me refl (λ none_left. ap (without i) (o.idle id v me none_left)) (omega (arith, bits.1.0))
            (λ k ne. without_else k i v.held ne) (λ k ne e. ne (omega arith)) (length-set s.homes i (some (Some x)) ∙ o.slots) (λ k ne. set_else s.homes i k (some (Some x)) ne)
            (λ clear. (x, here, fit)) (λ some_more far. absurd (omega arith)) (inr (omega arith))
            (as_before s o i (bit_and y 18446744073709551613) id v w near me refl refl (λ odd. bits.1.1 ∙ odd)),
        refl,
      )

  pub deals : (id : ℕ) (v : Hold) → 1 < v.parts → Splits O id v (hold (v.parts - 1) v.held v.out v.found v.began v.woke) (hold 1 [] 0 [] [] [])
  deals id v many s o me =
      let w : Hold = hold (v.parts - 1) v.held v.out v.found v.began v.woke in let u : Hold = hold 1 [] 0 [] [] [] in let vs = set s.views id w in
      let at : (j : ℕ) (z : Hold) → get_elem? (vs ++ u ∷ []) j ≡ some z → ((j ≡ id) × (w ≡ z)) ⊎ ((get_elem? s.views j ≡ some z) ⊎ (u ≡ z))
      = λ j z e. ⊎_elim (λ t. ⊎_elim (λ p. inl p) (λ p. inr (inl p.1)) (at_set s.views id j w z t)) (λ t. inr (inr t)) (at_snoc vs u z j e) in
      let turns : (k : ℕ) → turns_begun k (vs ++ u ∷ []) ≡ turns_begun k s.views = λ k. omega (arith, total-append (λ (z : Hold). times k z.began) vs (u ∷ []), turns_after k s id v w me) in
      record {
        wide = o.wide;
        slots = o.slots;
        low = o.low;
        once = λ k h. omega (arith, total-append (λ (z : Hold). times k z.held) vs (u ∷ []), total-set (λ (z : Hold). times k z.held) s.views id v w me, o.once k h);
        home = o.home;
        lent = λ j z k e h some_turn far. ⊎_elim
            (λ p. o.lent id v k me h (subst (λ (y : Hold). 0 < times k y.held) (sym p.1) some_turn) (subst (λ (y : Hold). y.out ≢ suc k) (sym p.1) far))
            (λ q. ⊎_elim (λ p. o.lent j z k p h some_turn far) (λ p. absurd (let gone : 0 < times k u.held = subst (λ (y : Hold). 0 < times k y.held) (sym p) some_turn in omega arith)) q)
            (at j z e);
        past = λ j z k e h. let eq = turns k in ⊎_elim
            (λ p. let is : latest k v.woke ≡ latest k z.woke = ap (λ (y : Hold). latest k y.woke) p.1 in let was = o.past id v k me h in omega arith)
            (λ q. ⊎_elim (λ p. let was = o.past j z k p h in omega arith) (λ p. let is : 0 ≡ latest k z.woke = ap (λ (y : Hold). latest k y.woke) p in omega arith) q)
            (at j z e);
        ready = λ j z k e h is. ⊎_elim
            (λ p. o.ready id v k me h (ap (λ (y : Hold). latest k y.woke) p.1 ∙ is ∙ ap suc (turns k)))
            (λ q. ⊎_elim (λ p. o.ready j z k p h (is ∙ ap suc (turns k))) (λ p. absurd (let none : 0 ≡ latest k z.woke = ap (λ (y : Hold). latest k y.woke) p in omega arith)) q)
            (at j z e);
        parts = omega (arith, total-append (λ (z : Hold). z.parts) vs (u ∷ []), total-set (λ (z : Hold). z.parts) s.views id v w me, o.parts);
        idle = λ j z e none_left. ⊎_elim
            (λ p. absurd (let gone : w.parts ≡ 0 = subst (λ (y : Hold). y.parts ≡ 0) (sym p.1) none_left in omega arith))
            (λ q. ⊎_elim (λ p. o.idle j z p none_left) (λ p. ap (λ (y : Hold). y.held) (sym p)) q)
            (at j z e);
      }

  pub joins : (id other : ℕ) (v u : Hold) → u.held ≡ [] → u.out ≡ 0 → Joins O id v other u (hold (v.parts + u.parts) v.held v.out v.found (v.began ++ u.began) v.woke) (hold 0 [] 0 [] [] [])
  joins id other v u none_held none_out s o me apart you =
      let w : Hold = hold (v.parts + u.parts) v.held v.out v.found (v.began ++ u.began) v.woke in let z₀ : Hold = hold 0 [] 0 [] [] [] in let vs = set s.views id w in
      let at : (j : ℕ) (z : Hold) → get_elem? (set vs other z₀) j ≡ some z → (z₀ ≡ z) ⊎ ((w ≡ z) ⊎ (get_elem? s.views j ≡ some z))
      = λ j z e. ⊎_elim (λ t. inl t.1) (λ t. ⊎_elim (λ p. inr (inl p.1)) (λ p. inr (inr p.1)) (at_set s.views id j w z t.1)) (at_set vs other j z₀ z e) in
      let turns : (k : ℕ) → turns_begun k (set vs other z₀) ≡ turns_begun k s.views
      = λ k. omega (arith, total-set (λ (z : Hold). times k z.began) vs other u z₀ you, turns_after k s id v w me, times-append k v.began u.began) in
      record {
        wide = o.wide;
        slots = o.slots;
        low = o.low;
        once = λ k h. omega (arith, total-set (λ (z : Hold). times k z.held) vs other u z₀ you, total-set (λ (z : Hold). times k z.held) s.views id v w me, o.once k h, ap (times k) none_held);
        home = o.home;
        lent = λ j z k e h some_turn far. ⊎_elim
            (λ p. absurd (let gone : 0 < times k z₀.held = subst (λ (y : Hold). 0 < times k y.held) (sym p) some_turn in omega arith))
            (λ q. ⊎_elim
            (λ p. o.lent id v k me h (subst (λ (y : Hold). 0 < times k y.held) (sym p) some_turn) (subst (λ (y : Hold). y.out ≢ suc k) (sym p) far))
            (λ p. o.lent j z k p h some_turn far) q)
            (at j z e);
        past = λ j z k e h. let eq = turns k in ⊎_elim
            (λ p. let is : 0 ≡ latest k z.woke = ap (λ (y : Hold). latest k y.woke) p in omega arith)
            (λ q. ⊎_elim
            (λ p. let is : latest k v.woke ≡ latest k z.woke = ap (λ (y : Hold). latest k y.woke) p in let was = o.past id v k me h in omega arith)
            (λ p. let was = o.past j z k p h in omega arith) q)
            (at j z e);
        ready = λ j z k e h is. ⊎_elim
            (λ p. absurd (let none : 0 ≡ latest k z.woke = ap (λ (y : Hold). latest k y.woke) p in omega arith))
            (λ q. ⊎_elim
            (λ p. o.ready id v k me h (ap (λ (y : Hold). latest k y.woke) p ∙ is ∙ ap suc (turns k)))
            (λ p. o.ready j z k p h (is ∙ ap suc (turns k))) q)
            (at j z e);
        parts = omega (arith, total-set (λ (z : Hold). z.parts) vs other u z₀ you, total-set (λ (z : Hold). z.parts) s.views id v w me, o.parts);
        idle = λ j z e none_left. ⊎_elim
            (λ p. ap (λ (y : Hold). y.held) (sym p))
            (λ q. ⊎_elim
            (λ p. let gone : v.parts ≡ 0 = (let both : w.parts ≡ 0 = subst (λ (y : Hold). y.parts ≡ 0) (sym p) none_left in omega arith) in ap (λ (y : Hold). y.held) (sym p) ∙ o.idle id v me gone)
            (λ p. o.idle j z p none_left) q)
            (at j z e);
      }

  pub leaves_at : (slots id : ℕ) (m : Sat T) (v : Hold) (i : ℕ) (more : List (ℕ × Option T)) → m ≡ (v, (i, None) ∷ more) → i < n → v.out ≡ suc i → 0 < times i v.held
      → Allows O slots id m i (λ y. y) (turn_left (step slots i 0 0 none) m)
  leaves_at slots id m v i more e near out some_turn = subst (λ (z : Sat T). Allows O slots id z i (λ y. y) (turn_left (step slots i 0 0 none) z)) (sym e) (leaves slots id v i more near out some_turn)

  pub ends_at : (slots id : ℕ) (m : Sat T) (v : Hold) (i : ℕ) (x : T) (more : List (ℕ × Option T)) → m ≡ (v, (i, Some x) ∷ more) → i < n → v.out ≡ suc i → 0 < times i v.held → fits i x
      → Allows O slots id m i (λ y. bit_and y 18446744073709551613) (turn_ended (step slots i 18446744073709551613 0 none) m)
  ends_at slots id m v i x more e near out some_turn fit =
      subst (λ (z : Sat T). Allows O slots id z i (λ y. bit_and y 18446744073709551613) (turn_ended (step slots i 18446744073709551613 0 none) z)) (sym e) (ends slots id v i x more near out some_turn fit)
