-- Of inputs of which at most one element waits each, fewer wait than there are where one has none.
use Rattle.std.proofs.Common.{◌≡◌, ℕ, zero, suc, ◌+◌, ◌≤◌, ◌<◌, ◌⊎◌, inl, inr, Bool, List, [], ◌∷◌, length, refl, sym, ap, ◌∙◌, subst, arith}
use Rattle.std.proofs.lemmas.Bool.{cases_order}
use Rattle.elem_core.specs.Tree.{Tree}
use Rattle.stage_merge.specs.declared.merging.Queued.{Queued}
use Rattle.stage_merge.specs.Mergings.{of_port, PortsThere}
use Rattle.stage_merge.proofs.Merges.{first_here, first_away}

-- ---- sums

more_last : (a b : ℕ) → a + suc b ≡ suc (a + b)
more_last a b = omega arith

more_first : (a b : ℕ) → suc a + b ≡ suc (a + b)
more_first a b = omega arith

none_last : (a b : ℕ) → a ≡ 0 → b ≡ 0 → a + b ≡ 0
none_last a b h k = omega (arith, h, k)

one_each : (a b k : ℕ) → a ≤ k → b ≤ 1 → a + b ≤ suc k
one_each a b k h l = omega (arith, h, l)

none_here : (a b k : ℕ) → a ≤ k → b ≡ 0 → a + b < suc k
none_here a b k h l = omega (arith, h, l)

none_before : (a b k : ℕ) → a < k → b ≤ 1 → a + b < suc k
none_before a b k h l = omega (arith, h, l)

-- ---- how many wait

-- of the first k inputs
abbrev total : ℕ → List Queued → ℕ
total zero q = 0
total (suc k) q = total k q + length (of_port k q)

total_none : (k : ℕ) → total k [] ≡ 0
total_none zero = refl
total_none (suc k) = none_last (total k []) 0 (total_none k) refl

-- one more of an input
total_behind : (k : ℕ) (x : Queued) (q : List Queued) → k ≤ x.port → total k (x ∷ q) ≡ total k q
total_behind zero x q h = refl
total_behind (suc k) x q h =
    ap (λ n. n + length (of_port k (x ∷ q))) (total_behind k x q (omega (arith, h)))
    ∙ ap (λ (l : List Tree). total k q + length l) (first_away k x.port x.item q (λ y. absurd (omega (arith, h, y))))

total_more : (k : ℕ) (x : Queued) (q : List Queued) → x.port < k → total k (x ∷ q) ≡ suc (total k q)
total_more zero x q h = absurd (omega (arith, h))
total_more (suc k) x q h = by_place (λ l. total_more k x q l) (cases_order x.port k)
  where
    by_place : (x.port < k → total k (x ∷ q) ≡ suc (total k q)) → (x.port ≡ k) ⊎ ((x.port < k) ⊎ (k < x.port)) → total k (x ∷ q) + length (of_port k (x ∷ q)) ≡ suc (total k q + length (of_port k q))
    by_place r (inl e) =
        ap (λ n. n + length (of_port k (x ∷ q))) (total_behind k x q (omega (arith, e)))
        ∙ ap (λ (l : List Tree). total k q + length l) (first_here k x.port x.item q e)
        ∙ more_last (total k q) (length (of_port k q))
    by_place r (inr (inl l)) =
        ap (λ n. n + length (of_port k (x ∷ q))) (r l)
        ∙ ap (λ (m : List Tree). suc (total k q) + length m) (first_away k x.port x.item q (λ y. absurd (omega (arith, y, l))))
        ∙ more_first (total k q) (length (of_port k q))
    by_place r (inr (inr l)) = absurd (omega (arith, h, l))

total_all : (over : List Bool) (q : List Queued) → PortsThere over q → length q ≡ total (length over) q
total_all over [] h = sym (total_none (length over))
total_all over (x ∷ q) h = ap suc (total_all over q h.1) ∙ sym (total_more (length over) x q h.0)

module _ (q : List Queued) (once : (m : ℕ) → length (of_port m q) ≤ 1) where
  at_most : (k : ℕ) → total k q ≤ k
  at_most zero = omega arith
  at_most (suc k) = one_each (total k q) (length (of_port k q)) k (at_most k) (once k)

  below : (k i : ℕ) → i < k → of_port i q ≡ [] → total k q < k
  below zero i h free = absurd (omega (arith, h))
  below (suc k) i h free = by_place (λ l. below k i l free) (cases_order i k)
    where
      by_place : (i < k → total k q < k) → (i ≡ k) ⊎ ((i < k) ⊎ (k < i)) → total k q + length (of_port k q) < suc k
      by_place r (inl e) = none_here (total k q) (length (of_port k q)) k (at_most k) (ap (λ m. length (of_port m q)) (sym e) ∙ ap length free)
      by_place r (inr (inl l)) = none_before (total k q) (length (of_port k q)) k (r l) (once k)
      by_place r (inr (inr l)) = absurd (omega (arith, h, l))

pub fewer : (over : List Bool) (q : List Queued) (i : ℕ) → PortsThere over q → ((m : ℕ) → length (of_port m q) ≤ 1) → i < length over → of_port i q ≡ [] → length q < length over
fewer over q i there once h free = subst (λ k. k < length over) (sym (total_all over q there)) (below q once (length over) i h free)
