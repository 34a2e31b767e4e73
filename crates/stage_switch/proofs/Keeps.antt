-- Each step of a switch's seats keeps the rule.
use Rattle.std.proofs.Common.{◌≡◌, ℕ, zero, suc, ◌+◌, ◌-◌, ◌<◌, ◌≤◌, ◌≢◌, ◌⊎◌, List, [], ◌∷◌, ◌++◌, length, get_or, set, sym, refl, ap, ◌∙◌, subst, inl, inr, ⊎_elim, arith, length-set, get_or-set_same, eqb}
use mathlib.Core.Option.{none, some, some-injective, some-ne-none}
use mathlib.Core.Logic.{dite}
use native.Mathlib.Decide.{ℕ_discrete}
use prog.Atomic.{either}
use lib.ListN.{get_elem?}
use Rattle.atomic_table.specs.Table.{State, Act, step, keeps, stepped, opening, Valid, carried_after, Allows, Splits, Joins}
use Rattle.atomic_table.proofs.Lists.{at_set, at_snoc, at_longer, set_here, set_else, exchanged}
use Rattle.stage_switch.proofs.Totals.{total-append, total-set, terms_le}
use Rattle.stage_switch.specs.declared.order.Order.{Order}
use Rattle.stage_switch.specs.declared.order.Order.TheVariants.{Shutdown, Abort}
use Rattle.stage_switch.specs.declared.known.Known.{Known}
use Rattle.stage_switch.specs.Rule.{known, code, orders_at, AllAre, SomeGave, SeatKeeps, OneOrder, Sat, looked, ordered}

-- orders and words

at_word : (r : ℕ) → r ≤ 2 → AllAre r (orders_at r)
at_word zero le = tt
at_word (suc zero) le = (refl, tt)
at_word (suc (suc zero)) le = (refl, tt)
at_word (suc (suc (suc n))) le = absurd (omega arith)

at_code : (o : Order) → orders_at (code o) ≡ o ∷ []
at_code Shutdown = refl
at_code Abort = refl

small_code : (o : Order) → (1 ≤ code o) × (code o ≤ 2)
small_code Shutdown = (omega arith, omega arith)
small_code Abort = (omega arith, omega arith)

some_at : (r : ℕ) → r ≢ 0 → orders_at r ≢ []
some_at zero n = λ e. n refl
some_at (suc zero) n = λ e. cc
some_at (suc (suc k)) n = λ e. cc

-- at 0 no order stands
none_are : (w : ℕ) (os : List Order) → w ≡ 0 → AllAre w os → os ≡ []
none_are w [] z a = refl
none_are w (o ∷ os) z a = absurd (let c = small_code o in omega (arith, a.0, c.0))

both_are : (w : ℕ) (os ps : List Order) → AllAre w os → AllAre w ps → AllAre w (os ++ ps)
both_are w [] ps a b = b
both_are w (o ∷ os) ps a b = (a.0, both_are w os ps a.1 b)

not_empty_left : (os ps : List Order) → os ≢ [] → os ++ ps ≢ []
not_empty_left [] ps n = absurd (n refl)
not_empty_left (o ∷ os) ps n = λ e. cc

not_empty_right : (os ps : List Order) → ps ≢ [] → os ++ ps ≢ []
not_empty_right [] ps n = n
not_empty_right (o ∷ os) ps n = λ e. cc

both_empty : (os ps : List Order) → os ≡ [] → ps ≡ [] → os ++ ps ≡ []
both_empty [] ps a b = b
both_empty (o ∷ os) ps a b = cc

module _ (seats : ℕ) where
  abbrev St : Type 0
  St = State (Unit {0}) Known

  abbrev O : St → Type 0
  O = OneOrder seats

  -- the word and one seat change
  moved : (s : St) (o : O s) (new id : ℕ) (v w : Known) → get_elem? s.views id ≡ some v → w.parts ≡ v.parts → SeatKeeps seats new w → new ≤ 2
      → ((j : ℕ) (u : Known) → get_elem? s.views j ≡ some u → SeatKeeps seats new u)
      → ((new ≡ 0) ⊎ SomeGave (set s.views id w))
      → O (record { words = set s.words 0 new; homes = s.homes; views = set s.views id w })
  moved s o new id v w me parts good le others given =
      let one = o.one in let d = total-set (λ (u : Known). u.parts) s.views id v w me in let was = o.parts in
      let here : get_or (set s.words 0 new) 0 0 ≡ new = get_or-set_same s.words 0 new 0 (omega arith) in
      record {
        one = length-set s.words 0 new ∙ o.one;
        word = subst (λ (n : ℕ). (n ≡ 0) ⊎ SomeGave (set s.views id w)) (sym here) given;
        small = subst (λ (n : ℕ). n ≤ 2) (sym here) le;
        each = λ j u e. subst (λ (n : ℕ). SeatKeeps seats n u) (sym here) (⊎_elim (λ t. subst (SeatKeeps seats new) t.1 good) (λ t. others j u t.1) (at_set s.views id j w u e));
        parts = omega arith;
      }

  below : (views : List Known) (id : ℕ) (v : Known) → get_elem? views id ≡ some v → id < length views
  below [] id v e = absurd (some-ne-none v (sym e))
  below (x ∷ xs) zero v e = omega arith
  below (x ∷ xs) (suc id) v e = let k = below xs id v e in omega arith

  -- who gave an order still did, where a seat's own orders stay
  gave_stays : (views : List Known) (id : ℕ) (v w : Known) → get_elem? views id ≡ some v → (v.gave ≢ [] → w.gave ≢ []) → SomeGave views → SomeGave (set views id w)
  gave_stays views id v w me stays g = dite (ℕ_discrete g.0 id)
      (λ e. let same : g.1.0 ≡ v = some-injective g.1.0 v (sym g.1.1.0 ∙ ap (get_elem? views) e ∙ me) in
      (id, (w, (set_here views id w (below views id v me), stays (subst (λ (z : Known). z.gave ≢ []) same g.1.1.1)))))
      (λ ne. (g.0, (g.1.0, (set_else views id g.0 w ne ∙ g.1.1.0, g.1.1.1))))

  -- where a seat has all parts, an order that stands is one that it gave
  sole : (s : St) (o : O s) (id : ℕ) (v : Known) → get_elem? s.views id ≡ some v → v.parts ≡ v.all → 1 ≤ v.parts → get_or s.words 0 0 ≢ 0 → v.gave ≢ []
  sole s o id v me all part stands = ⊎_elim (λ z. absurd (stands z)) by_seat o.word
    where
      mine : SeatKeeps seats (get_or s.words 0 0) v
      mine = o.each id v me

      by_seat : SomeGave s.views → v.gave ≢ []
      by_seat g = dite (ℕ_discrete g.0 id)
          (λ e. let same : g.1.0 ≡ v = some-injective g.1.0 v (sym g.1.1.0 ∙ ap (get_elem? s.views) e ∙ me) in subst (λ (z : Known). z.gave ≢ []) same g.1.1.1)
          (λ ne. let sum = terms_le (λ (u : Known). u.parts) s.views id g.0 v g.1.0 ne me g.1.1.0 in let was = o.parts in let is = mine.1.1.1 part in
          let none_left : g.1.0.parts ≡ 0 = omega arith in
          absurd (g.1.1.1 ((o.each g.0 g.1.0 g.1.1.0).1.1.0 none_left)))

  pub looks : (slots id : ℕ) (m : Sat) → 1 ≤ m.0.parts → Allows O slots id m 0 (λ n. n) (looked (step slots 0 0 0 none) m)
  looks slots id m part s o wide me small =
      let x : ℕ = get_or s.words 0 0 in let mine = o.each id m.0 me in
      let w : Known = known m.0.parts m.0.all m.0.gave (orders_at x) (m.0.looks + 1) in (
        w,
        keeps,
        tt,
        moved s o x id m.0 w me refl (at_word x o.small, mine.1) o.small o.each (⊎_elim (λ z. inl z) (λ g. inr (gave_stays s.views id m.0 w me (λ n. n) g)) o.word),
        (refl, (mine.0, (mine.1.0, (o.small, λ all stands. sole s o id m.0 me all part stands)))),
      )

  pub gives : (slots id : ℕ) (order : Order) (m : Sat) → 1 ≤ m.0.parts → Allows O slots id m 0 (λ n. either (eqb n 0) (code order) n) (ordered (step slots 0 0 (code order) none) m)
  gives slots id order m part s o wide me small = exchanged (get_or s.words 0 0) 0 (code order) Goal hit miss
    where
      mine : SeatKeeps seats (get_or s.words 0 0) m.0
      mine = o.each id m.0 me

      Goal : ℕ → Type 0
      Goal new = (w : Known) × (a : Act (Unit {0})) × Valid s.homes m.1 a × O (stepped s 0 new id m.1 w a) × ordered (step slots 0 0 (code order) none) m (get_or s.words 0 0) (w, carried_after m.1 a)

      -- where no order stands no seat knows or gave one
      fresh : get_or s.words 0 0 ≡ 0 → (v : Known) → SeatKeeps seats (get_or s.words 0 0) v → SeatKeeps seats (code order) v
      fresh z v k =
          let a = none_are (get_or s.words 0 0) v.knows z k.0 in let b = none_are (get_or s.words 0 0) v.gave z k.1.0 in
          (subst (AllAre (code order)) (sym a) tt, (subst (AllAre (code order)) (sym b) tt, k.1.1))

      hit : get_or s.words 0 0 ≡ 0 → Goal (code order)
      hit z =
          let w : Known = known m.0.parts m.0.all (orders_at (code order)) (orders_at (code order)) m.0.looks in let c = small_code order in
          let is : AllAre (code order) (orders_at (code order)) = at_word (code order) c.1 in (
            w,
            keeps,
            tt,
            moved s o (code order) id m.0 w me refl (is, (is, ((λ none_left. absurd (omega arith)), mine.1.1.1))) c.1 (λ j u e. fresh z u (o.each j u e))
                (inr (id, (w, (set_here s.views id w (below s.views id m.0 me), some_at (code order) (λ e. absurd (omega (arith, e, c.0))))))),
            ((λ zero_found. (refl, (none_are (get_or s.words 0 0) m.0.gave z mine.1.0, none_are (get_or s.words 0 0) m.0.knows z mine.0))), ((λ other. absurd (other z)), (mine.0, o.small))),
          )

      miss : get_or s.words 0 0 ≢ 0 → Goal (get_or s.words 0 0)
      miss n =
          let x : ℕ = get_or s.words 0 0 in let w : Known = known m.0.parts m.0.all m.0.gave (orders_at x) m.0.looks in (
            w,
            keeps,
            tt,
            moved s o x id m.0 w me refl (at_word x o.small, mine.1) o.small o.each (⊎_elim (λ z. inl z) (λ g. inr (gave_stays s.views id m.0 w me (λ k. k) g)) o.word),
            ((λ z. absurd (n z)), ((λ other. refl), (mine.0, o.small))),
          )

  pub deals : (id : ℕ) (v : Known) → 1 < v.parts → Splits O id v (known (v.parts - 1) v.all v.gave v.knows v.looks) (known 1 v.all [] [] 0)
  deals id v many s o me =
      let w : Known = known (v.parts - 1) v.all v.gave v.knows v.looks in let u : Known = known 1 v.all [] [] 0 in let vs = set s.views id w in let mine = o.each id v me in
      let a = total-append (λ (z : Known). z.parts) vs (u ∷ []) in let b = total-set (λ (z : Known). z.parts) s.views id v w me in let was = o.parts in
      let is : v.all ≡ seats = mine.1.1.1 (omega arith) in
      record {
        one = o.one;
        word = ⊎_elim (λ z. inl z) (λ g. let h = gave_stays s.views id v w me (λ n. n) g in inr (h.0, (h.1.0, (at_longer vs (u ∷ []) h.0 h.1.0 h.1.1.0, h.1.1.1)))) o.word;
        small = o.small;
        each = λ j z e. ⊎_elim
            (λ t. ⊎_elim (λ p. subst (SeatKeeps seats (get_or s.words 0 0)) p.1 (mine.0, (mine.1.0, ((λ none_left. absurd (omega arith)), λ part. is)))) (λ p. o.each j z p.1) (at_set s.views id j w z t))
            (λ t. subst (SeatKeeps seats (get_or s.words 0 0)) t (tt, (tt, ((λ none_left. refl), λ part. is))))
            (at_snoc vs u z j e);
        parts = omega arith;
      }

  pub joins : (id other : ℕ) (v u : Known) → 1 ≤ v.parts → Joins O id v other u (known (v.parts + u.parts) v.all (v.gave ++ u.gave) (v.knows ++ u.knows) (v.looks + u.looks)) (known 0 0 [] [] 0)
  joins id other v u part s o me apart you =
      let x : ℕ = get_or s.words 0 0 in let w : Known = known (v.parts + u.parts) v.all (v.gave ++ u.gave) (v.knows ++ u.knows) (v.looks + u.looks) in let z₀ : Known = known 0 0 [] [] 0 in
      let vs = set s.views id w in let mine = o.each id v me in
      let there : get_elem? s.views other ≡ some u = sym (set_else s.views id other w apart) ∙ you in
      let yours = o.each other u there in
      let a = total-set (λ (z : Known). z.parts) vs other u z₀ you in let b = total-set (λ (z : Known). z.parts) s.views id v w me in let was = o.parts in
      record {
        one = o.one;
        word = ⊎_elim (λ z. inl z) (λ g. inr (kept g there)) o.word;
        small = o.small;
        each = λ j z e. ⊎_elim
            (λ t. subst (SeatKeeps seats x) t.1 (tt, (tt, ((λ none_left. refl), λ some_left. absurd (omega arith)))))
            (λ t. ⊎_elim
            (λ p. subst (SeatKeeps seats x) p.1 (both_are x v.knows u.knows mine.0 yours.0, (both_are x v.gave u.gave mine.1.0 yours.1.0, ((λ none_left. absurd (omega arith)), λ some_left. mine.1.1.1 part))))
            (λ p. o.each j z p.1)
            (at_set s.views id j w z t.1))
            (at_set vs other j z₀ z e);
        parts = omega arith;
      }
    where
      joined : Known
      joined = known (v.parts + u.parts) v.all (v.gave ++ u.gave) (v.knows ++ u.knows) (v.looks + u.looks)

      here : get_elem? (set (set s.views id joined) other (known 0 0 [] [] 0)) id ≡ some joined
      here = set_else (set s.views id joined) other id (known 0 0 [] [] 0) (λ e. apart (sym e)) ∙ set_here s.views id joined (below s.views id v me)

      kept : SomeGave s.views → get_elem? s.views other ≡ some u → SomeGave (set (set s.views id joined) other (known 0 0 [] [] 0))
      kept g there = dite (ℕ_discrete g.0 id)
          (λ e. let same : g.1.0 ≡ v = some-injective g.1.0 v (sym g.1.1.0 ∙ ap (get_elem? s.views) e ∙ me) in
          (id, (joined, (here, not_empty_left v.gave u.gave (subst (λ (z : Known). z.gave ≢ []) same g.1.1.1)))))
          (λ ne. dite (ℕ_discrete g.0 other)
          (λ e. let same : g.1.0 ≡ u = some-injective g.1.0 u (sym g.1.1.0 ∙ ap (get_elem? s.views) e ∙ there) in
          (id, (joined, (here, not_empty_right v.gave u.gave (subst (λ (z : Known). z.gave ≢ []) same g.1.1.1)))))
          (λ no. (g.0, (g.1.0, (set_else (set s.views id joined) other g.0 (known 0 0 [] [] 0) no ∙ set_else s.views id g.0 joined ne ∙ g.1.1.0, g.1.1.1)))))

first : (seats j : ℕ) (u : Known) → get_elem? (known seats seats [] [] 0 ∷ []) j ≡ some u → SeatKeeps seats 0 u
first seats zero u e = subst (SeatKeeps seats 0) (some-injective (known seats seats [] [] 0) u e) (tt, (tt, ((λ h. refl), λ h. refl)))
first seats (suc j) u e = absurd (some-ne-none u (sym e))

pub opens : (seats : ℕ) (words : List ℕ) → words ≡ 0 ∷ [] → OneOrder seats (opening words [] (known seats seats [] [] 0))
opens seats words e = subst (λ (ws : List ℕ). OneOrder seats (opening ws [] (known seats seats [] [] 0))) (sym e) (record {
  one = refl;
  word = inl refl;
  small = omega arith;
  each = λ j u at. first seats j u at;
  parts = omega arith;
})
