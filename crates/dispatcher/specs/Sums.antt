-- Sums over lists, and how often a place stands in one.
use Rattle.std.specs.Prelude.{ℕ, suc, ◌+◌, List, [], ◌∷◌, cond, ◌==◌}

-- the sum of f over the list
abbrev pub total : {A : Type 0} → (A → ℕ) → List A → ℕ
total f [] = 0
total f (x ∷ xs) = f x + total f xs

-- how often k stands in the list
abbrev pub times : ℕ → List ℕ → ℕ
times k xs = total (λ y. cond (y == k) 1 0) xs

-- Of wakes, each a place and how many turns of it had begun: one more than that number at the first wake of k in the list, and 0
-- where k does not stand in it.
abbrev pub latest : ℕ → List (ℕ × ℕ) → ℕ
latest k [] = 0
latest k (w ∷ ws) = cond (w.0 == k) (suc w.1) (latest k ws)

-- the list without the first k in it
abbrev pub without : ℕ → List ℕ → List ℕ
without k [] = []
without k (x ∷ xs) = cond (x == k) xs (x ∷ without k xs)
