-- The lesser of two moves that could not be made is the least of what either is among.
use Rattle.std.specs.Prelude.{◌≡◌, ◌⊎◌, ℕ, ◌<◌, ◌≤◌, nat_lt, if◌then◌else◌, Bool, true, false, List, [], ◌∷◌, length, slice_get, Option, None, Some}
use Rattle.std.proofs.Common.{inl, inr, zero, suc, refl, arith}
use Rattle.std.proofs.lemmas.Bool.Decides.{nat_tests}
use Rattle.interpreter.specs.Misfits.{Found, least, least_all, found_at, IsLeast}

-- behind none stands the other
pub least_none : (p : Option Found) → least p None ≡ p
least_none None = refl
least_none (Some p) = refl

-- of three it is one, in whichever order they are met
pub least_three : (a b c : Option Found) → least (least a b) c ≡ least a (least b c)
least_three None b c = refl
least_three (Some a) None c = refl
least_three (Some a) (Some b) None = least_none (least (Some a) (Some b))
least_three (Some a) (Some b) (Some c) = grind (arith, nat_tests)

-- what finds the same has the same least
pub least_same : (F G : ℕ → ℕ → Type 0) (p : Option Found) → ((k i : ℕ) → F k i → G k i) → ((k i : ℕ) → G k i → F k i) → IsLeast F p → IsLeast G p
least_same F G None to back h = λ k i g. h k i (back k i g)
least_same F G (Some p) to back h = (to p.0 p.1 h.0, λ k i g. h.1 k i (back k i g))

-- the lesser of two
pub least_both : (F G : ℕ → ℕ → Type 0) (p q : Option Found) → IsLeast F p → IsLeast G q → IsLeast (λ k i. F k i ⊎ G k i) (least p q)
least_both F G None None f g = λ k i h. elim h [ inl a ↦ f k i a | inr b ↦ g k i b ]
least_both F G None (Some q) f g = (inr g.0, λ k i h. elim h [ inl a ↦ absurd (f k i a) | inr b ↦ g.1 k i b ])
least_both F G (Some p) None f g = (inl f.0, λ k i h. elim h [ inl a ↦ f.1 k i a | inr b ↦ absurd (g k i b) ])
least_both F G (Some p) (Some q) f g = by_test (nat_lt q.0 p.0) refl
  where
    by_test : (b : Bool) → nat_lt q.0 p.0 ≡ b → IsLeast (λ k i. F k i ⊎ G k i) (if b then Some q else Some p)
    by_test true e = (inr g.0, λ k i h. elim h [ inl a ↦ (let m = f.1 k i a in grind (arith, nat_tests, e, m)) | inr b ↦ g.1 k i b ])
    by_test false e = (inl f.0, λ k i h. elim h [ inl a ↦ f.1 k i a | inr b ↦ (let m = g.1 k i b in grind (arith, nat_tests, e, m)) ])

-- of several it is the least of what some of them finds
pub all_least : (G : ℕ → ℕ → ℕ → Type 0) (ms : List (Option Found)) → ((h : ℕ) (m : Option Found) → slice_get ms h ≡ Some m → IsLeast (G h) m) → IsLeast (λ k i. (h : ℕ) × ((h < length ms) × G h k i)) (least_all ms)
all_least G [] each = λ k i f. absurd (omega (arith, f.1.0))
all_least G (m ∷ ms) each =
    least_same (λ k i. G zero k i ⊎ ((h : ℕ) × ((h < length ms) × G (suc h) k i))) (λ k i. (h : ℕ) × ((h < length (m ∷ ms)) × G h k i)) (least m (least_all ms)) to back
    (least_both (G zero) (λ k i. (h : ℕ) × ((h < length ms) × G (suc h) k i)) m (least_all ms) (each zero m refl) (all_least (λ h. G (suc h)) ms (λ h x at. each (suc h) x at)))
  where
    to : (k i : ℕ) → G zero k i ⊎ ((h : ℕ) × ((h < length ms) × G (suc h) k i)) → (h : ℕ) × ((h < length (m ∷ ms)) × G h k i)
    to k i (inl f) = (zero, (omega arith, f))
    to k i (inr f) = (suc f.0, (let l = f.1.0 in omega (arith, l), f.1.1))

    back_at : (k i h : ℕ) → h < length (m ∷ ms) → G h k i → G zero k i ⊎ ((j : ℕ) × ((j < length ms) × G (suc j) k i))
    back_at k i zero l f = inl f
    back_at k i (suc h) l f = inr (h, (omega (arith, l), f))

    back : (k i : ℕ) → (h : ℕ) × ((h < length (m ∷ ms)) × G h k i) → G zero k i ⊎ ((j : ℕ) × ((j < length ms) × G (suc j) k i))
    back k i f = back_at k i f.0 f.1.0 f.1.1

-- one node alone
abbrev pub One : ℕ → Option ℕ → ℕ → ℕ → Type 0
One k o j i = (j ≡ k) × (o ≡ Some i)

pub one_least : (k : ℕ) (o : Option ℕ) → IsLeast (One k o) (found_at k o)
one_least k None = λ j i h. let e = h.1 in cc
one_least k (Some i) = ((refl, refl), λ j n h. let e = h.0 in omega (arith, e))
