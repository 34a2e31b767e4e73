-- Numbers that are compared, and flags that are set.
use Rattle.std.specs.Prelude.{◌==◌, slice_get, slice_set}
use Rattle.std.proofs.Common.{◌≡◌, ℕ, zero, suc, Bool, true, false, List, [], ◌∷◌, refl, ap, arith, Some}
use Rattle.std.proofs.lemmas.Bool.Decides.{nat_tests}

pub same : (n c : ℕ) → n ≡ c → (n == c) ≡ true
same n c h = grind (arith, nat_tests)

pub other : (n c : ℕ) → (n ≡ c → ⊥) → (n == c) ≡ false
other n c h = grind (arith, nat_tests)

-- ---- flags

pub set_here : (over : List Bool) (i : ℕ) (b : Bool) → slice_get over i ≡ Some b → slice_get (slice_set over i true) i ≡ Some true
set_here [] i b h = cc
set_here (x ∷ over) zero b h = refl
set_here (x ∷ over) (suc i) b h = set_here over i b h

pub set_other : (over : List Bool) (i k : ℕ) → (i ≡ k → ⊥) → slice_get (slice_set over i true) k ≡ slice_get over k
set_other [] i k n = refl
set_other (x ∷ over) zero zero n = absurd (n refl)
set_other (x ∷ over) zero (suc k) n = refl
set_other (x ∷ over) (suc i) zero n = refl
set_other (x ∷ over) (suc i) (suc k) n = set_other over i k (λ e. n (ap suc e))

pub set_keeps : (over : List Bool) (i k : ℕ) → slice_get over k ≡ Some true → slice_get (slice_set over i true) k ≡ Some true
set_keeps [] i k h = cc
set_keeps (x ∷ over) zero zero h = refl
set_keeps (x ∷ over) zero (suc k) h = h
set_keeps (x ∷ over) (suc i) zero h = h
set_keeps (x ∷ over) (suc i) (suc k) h = set_keeps over i k h
