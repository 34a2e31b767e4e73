-- Sums over the wires.
use Rattle.std.proofs.Common.{◌≡◌, ◌≢◌, inl, inr, ℕ, zero, suc, ◌+◌, ◌<◌, ◌≤◌, arith}
use Rattle.fused_net.specs.Costs.{sum_below}
use Rattle.fused_net.proofs.Reading.{same_or_not}

pub sum_le : (f g : ℕ → ℕ) (n : ℕ) → ((k : ℕ) → k < n → f k ≤ g k) → sum_below f n ≤ sum_below g n
sum_le f g zero h = omega arith
sum_le f g (suc n) h = omega (arith, sum_le f g n (λ k l. h k (omega arith)), h n (omega arith))

-- one of them grew
pub sum_up : (f g : ℕ → ℕ) (n w : ℕ) → w < n → ((k : ℕ) → k < n → f k ≤ g k) → f w + 1 ≤ g w → sum_below f n + 1 ≤ sum_below g n
sum_up f g zero w l h u = absurd (omega arith)
sum_up f g (suc n) w l h u = elim (same_or_not w n) [
  | inl e ↦ let at : f n + 1 ≤ g n = rw e at u in omega (arith, sum_le f g n (λ k l. h k (omega arith)), at)
  | inr ne ↦ let below : w < n = omega arith in omega (arith, sum_up f g n w below (λ k l. h k (omega arith)) u, h n (omega arith))
]

-- one of them grew by one at most, and no other grew
pub sum_up_most : (f g : ℕ → ℕ) (n w : ℕ) → ((k : ℕ) → k < n → k ≢ w → g k ≤ f k) → g w ≤ f w + 1 → sum_below g n ≤ sum_below f n + 1
sum_up_most f g zero w h u = omega arith
sum_up_most f g (suc n) w h u = elim (same_or_not w n) [
  | inl e ↦ let at : g n ≤ f n + 1 = rw e at u in
      let rest : sum_below g n ≤ sum_below f n = sum_le g f n (λ k l. h k (omega arith) (λ t. let z : k ≡ n = rw e at t in omega arith)) in
      omega (arith, rest, at)
  | inr ne ↦ let top : g n ≤ f n = h n (omega arith) (λ t. let z : w ≡ n = cc in ne z) in
      omega (arith, sum_up_most f g n w (λ k l. h k (omega arith)) u, top)
]

-- each is at most all
pub sum_has : (f : ℕ → ℕ) (n w : ℕ) → w < n → f w ≤ sum_below f n
sum_has f zero w l = absurd (omega arith)
sum_has f (suc n) w l = elim (same_or_not w n) [
  | inl e ↦ let at : f w ≡ f n = rw e (omega arith) in omega (arith, at)
  | inr ne ↦ omega (arith, sum_has f n w (omega arith))
]

-- a fact at one place and at every other
pub by_place : (F G : ℕ → ℕ) (w k : ℕ) → F w ≤ G w → (k ≢ w → F k ≤ G k) → F k ≤ G k
by_place F G w k at other = elim (same_or_not k w) [ inl e ↦ rw e at | inr ne ↦ other ne ]
