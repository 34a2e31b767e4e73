-- What `cut_at` gives, and the lines of a text that is cut at its first LF.
use Rattle.std.proofs.Common.{◌≡◌, ℕ, suc, zero, ◌+◌, ◌-◌, ◌<◌, true, eqb, List, [], ◌∷◌, ◌++◌, length, take, drop, get_or, Option, Some, None, unwrap_or, refl, sym, ap, ◌∙◌, ⊎_elim, add-one, arith}
use Rattle.std.proofs.lemmas.Grind.{common_steps}
use Rattle.std.specs.Option.{option_map}
use Rattle.std.proofs.lemmas.Bool.{cases_Bool, eqb-true, eq-eqb, false_from_ne_true, cond-true, cond-false, and_parts, not-true}
use Rattle.blue_words.proofs.Plain.{lacks}
use Rattle.elem_core.specs.Text.{lines, add_byte}
use Rattle.blue_words.specs.Cut.{cut_at, onto_cut}

pub cut_at-first : (c : ℕ) (bs : List ℕ) (k : ℕ) → k < length bs → eqb (get_or bs k 0) c ≡ true → ((j : ℕ) → j < k → eqb (get_or bs j 0) c ≡ true → ⊥) → cut_at c bs ≡ Some (take k bs, drop (k + 1) bs)
cut_at-first c [] k l t h = absurd (omega arith)
cut_at-first c (b ∷ bs) zero l t h = rw t refl
cut_at-first c (b ∷ bs) (suc k) l t h =
    let f = false_from_ne_true (eqb b c) (h 0 (omega arith)) in
    let e = cut_at-first c bs k (omega arith) t (λ j m. h (suc j) (omega arith)) in
    rw (f, e, add-one k, add-one (suc k)) refl

pub cut_at-none : (c : ℕ) (bs : List ℕ) → ((j : ℕ) → j < length bs → eqb (get_or bs j 0) c ≡ true → ⊥) → cut_at c bs ≡ None
cut_at-none c [] h = refl
cut_at-none c (b ∷ bs) h =
    let f = false_from_ne_true (eqb b c) (h 0 (omega arith)) in
    rw (f, cut_at-none c bs (λ j m. h (suc j) (omega arith))) refl

-- an answer that is a pair has one pair
pub pair_parts : {A B : Type 0} (a x : A) (b y : B) → ◌≡◌ {A = Option (A × B)} (Some (a, b)) (Some (x, y)) → (a ≡ x) × (b ≡ y)
pair_parts a x b y h = let k = ap (λ o. unwrap_or o (a, b)) h in (ap (λ p. p.0) k, ap (λ p. p.1) k)

onto_parts : (b : ℕ) (o : Option (List ℕ × List ℕ)) (l m : List ℕ) → option_map (onto_cut b) o ≡ Some (l, m) → (k : List ℕ) × (l ≡ b ∷ k) × (o ≡ Some (k, m))
onto_parts b None l m h = absurd (let k : ⊥ = cc in k)
onto_parts b (Some q) l m h =
    let e = pair_parts (b ∷ q.0) l q.1 m h in (q.0, sym e.0, ap (λ x. Some (q.0, x)) e.1)

pub cut_at-says : (c : ℕ) (bs l m : List ℕ) → cut_at c bs ≡ Some (l, m) → bs ≡ l ++ c ∷ m
cut_at-says c [] l m h = cc
cut_at-says c (b ∷ bs) l m h =
    ⊎_elim
    (λ t. let e = eqb-true b c t in let k = pair_parts [] l bs m (rw t at h) in cc)
    (λ f. let k = onto_parts b (cut_at c bs) l m (rw f at h) in let e = cut_at-says c bs k.0 m k.2 in ap (λ x. b ∷ x) e ∙ ap (λ x. x ++ c ∷ m) (sym k.1))
    (cases_Bool (eqb b c))

pub lines-cut : (bs l m : List ℕ) → cut_at 10 bs ≡ Some (l, m) → lines bs ≡ l ∷ lines m
lines-cut [] l m h = cc
lines-cut (b ∷ bs) l m h =
    ⊎_elim
    (λ t. let k = pair_parts [] l bs m (rw t at h) in cond-true (eqb b 10) _ _ t ∙ (ap (λ x. x ∷ lines bs) k.0 ∙ ap (λ x. l ∷ lines x) k.1))
    (λ f. let k = onto_parts b (cut_at 10 bs) l m (rw f at h) in cond-false (eqb b 10) _ _ f ∙ (ap (add_byte b) (lines-cut bs k.0 m k.2) ∙ ap (λ x. x ∷ lines m) (sym k.1)))
    (cases_Bool (eqb b 10))

onto_none : (b : ℕ) (o : Option (List ℕ × List ℕ)) → option_map (onto_cut b) o ≡ None → o ≡ None
onto_none b None h = refl
onto_none b (Some q) h = cc

-- a text that has no LF is one line, unless it is empty
pub lines-whole : (b : ℕ) (bs : List ℕ) → cut_at 10 (b ∷ bs) ≡ None → lines (b ∷ bs) ≡ (b ∷ bs) ∷ []
lines-whole b [] h =
    ⊎_elim (λ t. let k = rw t at h in cc) (λ f. rw f refl) (cases_Bool (eqb b 10))
lines-whole b (x ∷ bs) h =
    ⊎_elim (λ t. let k = rw t at h in cc) (λ f. rw (f, lines-whole x bs (onto_none b (cut_at 10 (x ∷ bs)) (rw f at h))) refl) (cases_Bool (eqb b 10))

pub lines-one : (bs : List ℕ) → 0 < length bs → cut_at 10 bs ≡ None → lines bs ≡ bs ∷ []
lines-one [] l h = absurd (omega arith)
lines-one (b ∷ bs) l h = lines-whole b bs h

-- `&s[i..]`
pub take_rest : (bs : List ℕ) (i : ℕ) → take (length bs - i) (drop i bs) ≡ drop i bs
take_rest bs i = grind (arith, common_steps)

-- a text whose first part holds no such byte
pub cut_at-append : (c : ℕ) (xs ys : List ℕ) → lacks c xs ≡ true → cut_at c (xs ++ c ∷ ys) ≡ Some (xs, ys)
cut_at-append c [] ys h = rw (eq-eqb c c refl) refl
cut_at-append c (x ∷ xs) ys h =
    let parts = and_parts _ (lacks c xs) h in
    rw (not-true (eqb x c) parts.0, cut_at-append c xs ys parts.1) refl
