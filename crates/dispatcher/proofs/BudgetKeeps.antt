-- Each step keeps the rule.
use Rattle.std.proofs.Common.{◌≡◌, ℕ, zero, suc, ◌+◌, ◌-◌, ◌*◌, ◌%◌, ◌^◌, ◌<◌, ◌≤◌, List, [], ◌∷◌, ◌++◌, get_or, set, sym, refl, ◌∙◌, subst, ⊎_elim, arith, length-set, get_or-set_same}
use Rattle.std.proofs.Math.Nat.{min-le_left, min-le_right}
use mathlib.Core.Option.{none, some, some-injective, some-ne-none}
use lib.ListN.{get_elem?}
use Rattle.atomic_table.specs.Table.{State, step, keeps, opening, Allows, Splits, Joins}
use Rattle.atomic_table.proofs.Lists.{at_set, at_snoc}
use Rattle.dispatcher.specs.Sums.{total}
use Rattle.dispatcher.proofs.Totals.{total-append, total-set, term_le}
use Rattle.dispatcher.specs.Rule.{share, granted_of, Fair, Sat, claimed, given_back, looked}
use Rattle.dispatcher.specs.declared.share.Share.{Share}

-- a sum whose terms are at most so many times those of another
total_within : (l : List Share) → ((id : ℕ) (v : Share) → get_elem? l id ≡ some v → v.claim ≤ 1000 * v.parts) → total (λ (v : Share). v.claim) l ≤ 1000 * total (λ (v : Share). v.parts) l
total_within [] h = omega arith
total_within (x ∷ xs) h = let a = h 0 x refl in let b = total_within xs (λ j. h (suc j)) in omega arith

granted_le : (l : List Share) → ((id : ℕ) (v : Share) → get_elem? l id ≡ some v → v.granted ≤ v.claim) → total (λ (v : Share). v.granted) l ≤ total (λ (v : Share). v.claim) l
granted_le [] h = omega arith
granted_le (x ∷ xs) h = let a = h 0 x refl in let b = granted_le xs (λ j. h (suc j)) in omega arith

abbrev Good : ℕ → Share → Type 0
Good limit v = (v.claim ≤ 1000 * v.parts) × (v.granted ≤ v.claim) × (0 < v.parts → v.limit ≡ limit) × (v.parts ≡ 0 → v.used ≡ 0)

module _ (limit seats : ℕ) where
  abbrev St : Type 0
  St = State (Unit {0}) Share

  abbrev O : St → Type 0
  O = Fair limit seats

  moved : (s : St) (o : O s) (new id : ℕ) (v w : Share) → get_elem? s.views id ≡ some v → w.parts ≡ v.parts → Good limit w
      → new + v.used + v.claim ≡ get_or s.words 0 0 + w.used + w.claim
      → total (λ (u : Share). u.used) s.views + total (λ (u : Share). u.granted) s.views + w.used + w.granted ≤ limit + v.used + v.granted
      → O (record { words = set s.words 0 new; homes = s.homes; views = set s.views id w })
  moved s o new id v w me parts good sum within = let one = o.one in let word = o.word in
      let a = total-set (λ (u : Share). u.used) s.views id v w me in let b = total-set (λ (u : Share). u.claim) s.views id v w me in
      let c = total-set (λ (u : Share). u.granted) s.views id v w me in let d = total-set (λ (u : Share). u.parts) s.views id v w me in let was = o.parts in
      let here : get_or (set s.words 0 new) 0 0 ≡ new = get_or-set_same s.words 0 new 0 (omega arith) in
      record {
        one = length-set s.words 0 new ∙ o.one;
        word = omega arith;
        within = omega arith;
        each = λ j u e. ⊎_elim (λ t. subst (Good limit) t.1 good) (λ t. o.each j u t.1) (at_set s.views id j w u e);
        parts = omega arith;
        small = o.small;
      }

  pub claims : (slots id : ℕ) (m : Sat) → 0 < m.0.parts → m.0.claim ≡ 0 → m.0.granted ≡ 0 → Allows O slots id m 0 (λ n. (n + 1000) % 2 ^ 64) (claimed (step slots 0 1000 0 none) m)
  claims slots id m part none_claimed none_granted s o wide me small =
      let x : ℕ = get_or s.words 0 0 in let mine = o.each id m.0 me in let bound = total_within s.views (λ j u e. (o.each j u e).0) in let word = o.word in let within = o.within in let fits = o.small in let parts = o.parts in
      let limit_is = mine.2 part in
      let w : Share = share m.0.parts m.0.used 1000 (granted_of m.0.limit x 1000) m.0.limit in
      let g : ℕ = granted_of m.0.limit x 1000 in let low : g ≤ 1000 = min-le_left 1000 (m.0.limit - x) in let high : g ≤ m.0.limit - x = min-le_right 1000 (m.0.limit - x) in
      let granted_within = granted_le s.views (λ j u e. (o.each j u e).1) in let got : w.granted ≡ g = refl in (
        w,
        keeps,
        tt,
        moved s o ((x + 1000) % 2 ^ 64) id m.0 w me refl (omega arith, low, mine.2, mine.3) (omega arith) (omega arith),
        (refl, (let used = term_le (λ (u : Share). u.used) s.views id m.0 me in omega arith)),
      )

  pub settles : (slots id used : ℕ) (m : Sat) → m.0.claim ≡ 1000 → used ≤ m.0.granted → used ≤ 1000 → 0 < m.0.parts
      → Allows O slots id m 0 (λ n. (n + (2 ^ 64 - (1000 - used))) % 2 ^ 64) (given_back (step slots 0 (1000 - used) 0 none) m)
  settles slots id used m claimed within least part s o wide me small =
      let x : ℕ = get_or s.words 0 0 in let mine = o.each id m.0 me in let word = o.word in let all = o.within in let claim = term_le (λ (u : Share). u.claim) s.views id m.0 me in
      let w : Share = share m.0.parts (m.0.used + (m.0.claim - (1000 - used))) 0 0 m.0.limit in let is : m.0.claim - (1000 - used) ≡ used = omega arith in (
        w,
        keeps,
        tt,
        moved s o ((x + (2 ^ 64 - (1000 - used))) % 2 ^ 64) id m.0 w me refl (omega arith, omega arith, mine.2, λ none_left. absurd (omega arith)) (omega arith) (omega arith),
        refl,
      )

  pub looks : (slots id : ℕ) (m : Sat) → 0 < m.0.parts → Allows O slots id m 0 (λ n. n) (looked (step slots 0 0 0 none) m)
  looks slots id m part s o wide me small =
      let mine = o.each id m.0 me in let used = term_le (λ (u : Share). u.used) s.views id m.0 me in let within = o.within in let limit_is = mine.2 part in
      (m.0, keeps, tt, moved s o (get_or s.words 0 0) id m.0 m.0 me refl mine refl (omega arith), (refl, omega arith))

  pub deals : (id : ℕ) (v : Share) → 1 < v.parts → v.claim ≡ 0 → v.granted ≡ 0 → Splits O id v (share (v.parts - 1) v.used v.claim v.granted v.limit) (share 1 0 0 0 v.limit)
  deals id v many none_claimed none_granted s o me =
      let w : Share = share (v.parts - 1) v.used v.claim v.granted v.limit in let u : Share = share 1 0 0 0 v.limit in let vs = set s.views id w in let mine = o.each id v me in
      let sum : (f : Share → ℕ) → total f (vs ++ u ∷ []) + f v ≡ total f s.views + f w + f u = λ f. let a = total-append f vs (u ∷ []) in let b = total-set f s.views id v w me in omega arith in
      let word = o.word in let within = o.within in let parts = o.parts in
      let a = sum (λ z. z.used) in let b = sum (λ z. z.claim) in let c = sum (λ z. z.granted) in let d = sum (λ z. z.parts) in
      record {
        one = o.one;
        word = omega arith;
        within = omega arith;
        each = λ j z e. ⊎_elim
            (λ t. ⊎_elim (λ p. subst (Good limit) p.1 (omega arith, omega arith, (λ some_left. mine.2 (omega arith)), λ none_left. absurd (omega arith))) (λ p. o.each j z p.1) (at_set s.views id j w z t))
            (λ t. subst (Good limit) t (omega arith, omega arith, (λ some_left. mine.2 (omega arith)), λ none_left. refl))
            (at_snoc vs u z j e);
        parts = omega arith;
        small = o.small;
      }

  pub joins : (id other : ℕ) (v u : Share) → v.claim ≡ 0 → v.granted ≡ 0 → u.claim ≡ 0 → u.granted ≡ 0 → 0 < v.parts
      → Joins O id v other u (share (v.parts + u.parts) (v.used + u.used) 0 0 v.limit) (share 0 0 0 0 0)
  joins id other v u vc vg uc ug part s o me apart you =
      let w : Share = share (v.parts + u.parts) (v.used + u.used) 0 0 v.limit in let z₀ : Share = share 0 0 0 0 0 in let vs = set s.views id w in let mine = o.each id v me in
      let sum : (f : Share → ℕ) → total f (set vs other z₀) + f u + f v ≡ total f s.views + f w + f z₀ = λ f. let a = total-set f vs other u z₀ you in let b = total-set f s.views id v w me in omega arith in
      let word = o.word in let within = o.within in let parts = o.parts in
      let a = sum (λ z. z.used) in let b = sum (λ z. z.claim) in let c = sum (λ z. z.granted) in let d = sum (λ z. z.parts) in
      record {
        one = o.one;
        word = omega arith;
        within = omega arith;
        each = λ j z e. ⊎_elim
            (λ t. subst (Good limit) t.1 (omega arith, omega arith, (λ some_left. absurd (omega arith)), λ none_left. refl))
            (λ t. ⊎_elim
            (λ p. subst (Good limit) p.1 (omega arith, omega arith, (λ some_left. mine.2 part), λ none_left. absurd (omega arith)))
            (λ p. o.each j z p.1)
            (at_set s.views id j w z t.1))
            (at_set vs other j z₀ z e);
        parts = omega arith;
        small = o.small;
      }

first : (limit seats j : ℕ) (u : Share) → get_elem? (share seats 0 0 0 limit ∷ []) j ≡ some u → Good limit u
first limit seats zero u e = subst (Good limit) (some-injective (share seats 0 0 0 limit) u e) (omega arith, omega arith, (λ h. refl), λ h. refl)
first limit seats (suc j) u e = absurd (some-ne-none u (sym e))

pub opens : (limit seats : ℕ) (words : List ℕ) → words ≡ 0 ∷ [] → limit + 1000 * seats < 4611686018427387904 → Fair limit seats (opening words [] (share seats 0 0 0 limit))
opens limit seats words e fits = subst (λ (ws : List ℕ). Fair limit seats (opening ws [] (share seats 0 0 0 limit))) (sym e) (record {
  one = refl;
  word = refl;
  within = omega arith;
  each = λ j u at. first limit seats j u at;
  parts = omega arith;
  small = fits;
})
