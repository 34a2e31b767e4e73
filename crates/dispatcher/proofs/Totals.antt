-- Sums over lists that change at one place.
use Rattle.std.proofs.Common.{◌≡◌, ℕ, zero, suc, ◌+◌, ◌<◌, ◌≤◌, ◌≢◌, List, [], ◌∷◌, ◌++◌, set, sym, refl, ap, ◌∙◌, arith, cond, eqb, eq-eqb, ne_eqb, Bool}
use mathlib.Core.Logic.{dite}
use native.Mathlib.Decide.{ℕ_discrete}
use mathlib.Core.Option.{some, some-injective, some-ne-none}
use lib.ListN.{get_elem?}
use Rattle.dispatcher.specs.Sums.{total, times, latest, without}

module _ {A : Type 0} (g : A → ℕ) where
  pub total-append : (l m : List A) → total g (l ++ m) ≡ total g l + total g m
  total-append [] m = omega arith
  total-append (x ∷ xs) m = omega (arith, total-append xs m)

  pub total-set : (l : List A) (j : ℕ) (v w : A) → get_elem? l j ≡ some v → total g (set l j w) + g v ≡ total g l + g w
  total-set [] j v w e = absurd (some-ne-none v (sym e))
  total-set (x ∷ xs) zero v w e = omega (arith, ap g (some-injective x v e))
  total-set (x ∷ xs) (suc j) v w e = omega (arith, total-set xs j v w e)

  pub term_le : (l : List A) (j : ℕ) (v : A) → get_elem? l j ≡ some v → g v ≤ total g l
  term_le [] j v e = absurd (some-ne-none v (sym e))
  term_le (x ∷ xs) zero v e = omega (arith, ap g (some-injective x v e))
  term_le (x ∷ xs) (suc j) v e = omega (arith, term_le xs j v e)

  pub terms_le : (l : List A) (j k : ℕ) (v u : A) → k ≢ j → get_elem? l j ≡ some v → get_elem? l k ≡ some u → g v + g u ≤ total g l
  terms_le [] j k v u n e d = absurd (some-ne-none v (sym e))
  terms_le (x ∷ xs) zero zero v u n e d = absurd (n refl)
  terms_le (x ∷ xs) zero (suc k) v u n e d = omega (arith, ap g (some-injective x v e), term_le xs k u d)
  terms_le (x ∷ xs) (suc j) zero v u n e d = omega (arith, ap g (some-injective x u d), term_le xs j v e)
  terms_le (x ∷ xs) (suc j) (suc k) v u n e d = omega (arith, terms_le xs j k v u (λ h. n (ap suc h)) e d)

  pub total-zero : (l : List A) → ((j : ℕ) (u : A) → get_elem? l j ≡ some u → g u ≡ 0) → total g l ≡ 0
  total-zero [] h = refl
  total-zero (x ∷ xs) h = omega (arith, h 0 x refl, total-zero xs (λ j. h (suc j)))

pub times_here : (k : ℕ) (xs : List ℕ) → times k (k ∷ xs) ≡ suc (times k xs)
times_here k xs = omega (arith, ap {B = ℕ} (λ b. cond b 1 0) (eq-eqb k k refl))

pub times_else : (k j : ℕ) (xs : List ℕ) → k ≢ j → times k (j ∷ xs) ≡ times k xs
times_else k j xs ne = omega (arith, ap {B = ℕ} (λ b. cond b 1 0) (ne_eqb j k (λ e. ne (sym e))))

-- the same of a list that is put together
pub times-append : (k : ℕ) (xs ys : List ℕ) → times k (xs ++ ys) ≡ times k xs + times k ys
times-append k xs ys = total-append (λ (y : ℕ). cond (eqb y k) 1 0) xs ys

pub latest_here : (k b : ℕ) (ws : List (ℕ × ℕ)) → latest k ((k, b) ∷ ws) ≡ suc b
latest_here k b ws = ap (λ (c : Bool). cond c (suc b) (latest k ws)) (eq-eqb k k refl)

pub latest_else : (k j b : ℕ) (ws : List (ℕ × ℕ)) → k ≢ j → latest k ((j, b) ∷ ws) ≡ latest k ws
latest_else k j b ws ne = ap (λ (c : Bool). cond c (suc b) (latest k ws)) (ne_eqb j k (λ e. ne (sym e)))

pub without_here : (k : ℕ) (xs : List ℕ) → 0 < times k xs → suc (times k (without k xs)) ≡ times k xs
without_here k [] h = absurd (omega arith)
without_here k (x ∷ xs) h = dite (ℕ_discrete x k)
    (λ e. let yes = eq-eqb x k e in omega (arith, ap {B = ℕ} (λ b. cond b 1 0) yes, ap (λ (b : Bool). times k (cond b xs (x ∷ without k xs))) yes))
    (λ ne. let no = ne_eqb x k ne in let one = ap {B = ℕ} (λ b. cond b 1 0) no in omega (arith, one, ap (λ (b : Bool). times k (cond b xs (x ∷ without k xs))) no, without_here k xs (omega arith)))

pub without_else : (k j : ℕ) (xs : List ℕ) → k ≢ j → times k (without j xs) ≡ times k xs
without_else k j [] ne = refl
without_else k j (x ∷ xs) ne = dite (ℕ_discrete x j)
    (λ e. omega (arith, ap {B = ℕ} (λ b. cond b 1 0) (ne_eqb x k (λ h. ne (sym h ∙ e))), ap (λ (b : Bool). times k (cond b xs (x ∷ without j xs))) (eq-eqb x j e)))
    (λ n. omega (arith, ap (λ (b : Bool). times k (cond b xs (x ∷ without j xs))) (ne_eqb x j n), without_else k j xs ne))

pub same_head : {A : Type 0} (x y : A) → x ∷ [] ≡ y ∷ [] → x ≡ y
same_head x y e = some-injective x y (ap (λ l. get_elem? l 0) e)
