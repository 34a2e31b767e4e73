-- A list of islands of which one has got one more.
use Rattle.std.proofs.Common.{◌≡◌, ℕ, zero, suc, ◌<◌, cond, ◌==◌, List, [], ◌∷◌, ◌++◌, length, set, Option, Some, refl, ap, sym, ◌∙◌, ⊎_elim, arith}
use Rattle.std.specs.Prelude.{slice_get}
use Rattle.std.proofs.lemmas.Bool.{cases_eq, eq-eqb, ne_eqb}
use Rattle.std.proofs.lemmas.List.{append-nil}

get_set_same : {X : Type 0} (xs : List X) (i : ℕ) (v : X) → i < length xs → slice_get (set xs i v) i ≡ Some v
get_set_same [] i v lt = absurd (omega arith)
get_set_same (x ∷ xs) zero v lt = refl
get_set_same (x ∷ xs) (suc i) v lt = get_set_same xs i v (omega arith)

pub get_set_other : {X : Type 0} (xs : List X) (i k : ℕ) (v : X) → (k ≡ i → ⊥) → slice_get (set xs i v) k ≡ slice_get xs k
get_set_other [] i k v ne = refl
get_set_other (x ∷ xs) zero zero v ne = absurd (ne refl)
get_set_other (x ∷ xs) zero (suc k) v ne = refl
get_set_other (x ∷ xs) (suc i) zero v ne = refl
get_set_other (x ∷ xs) (suc i) (suc k) v ne = get_set_other xs i k v (λ e. ne (ap suc e))

module _ {X : Type 0} (f : Option X → List ℕ) (xs : List X) (i k : ℕ) (v : X) (lt : i < length xs) where
  -- what is read off the entry that was set has one more
  pub read-put : (n : ℕ) → f (Some v) ≡ f (slice_get xs i) ++ n ∷ [] → f (slice_get (set xs i v) k) ≡ f (slice_get xs k) ++ cond (i == k) (n ∷ []) []
  read-put n here =
      ⊎_elim
      (λ (e : i ≡ k).
      let at : f (slice_get (set xs i v) k) ≡ f (slice_get xs k) ++ n ∷ [] = ap (λ j. f (slice_get (set xs i v) j)) (sym e) ∙ ap f (get_set_same xs i v lt) ∙ here ∙ ap (λ j. f (slice_get xs j) ++ n ∷ []) e in
      at ∙ ap (λ b. f (slice_get xs k) ++ cond b (n ∷ []) []) (sym (eq-eqb i k e)))
      (λ (ne : i ≡ k → ⊥).
      ap f (get_set_other xs i k v (λ e. ne (sym e))) ∙ sym (append-nil (f (slice_get xs k))) ∙ ap (λ b. f (slice_get xs k) ++ cond b (n ∷ []) []) (sym (ne_eqb i k ne)))
      (cases_eq i k)

  -- what is read off it is as it was
  pub read-kept : f (Some v) ≡ f (slice_get xs i) → f (slice_get (set xs i v) k) ≡ f (slice_get xs k)
  read-kept here =
      ⊎_elim
      (λ (e : i ≡ k). ap (λ j. f (slice_get (set xs i v) j)) (sym e) ∙ ap f (get_set_same xs i v lt) ∙ here ∙ ap (λ j. f (slice_get xs j)) e)
      (λ (ne : i ≡ k → ⊥). ap f (get_set_other xs i k v (λ e. ne (sym e))))
      (cases_eq i k)
