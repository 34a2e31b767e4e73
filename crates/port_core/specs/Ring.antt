-- The connections that have an event, as a list of distinct numbers.
use Rattle.std.specs.Prelude.{◌≡◌, ℕ, suc, ◌<◌, ◌≤◌, ◌==◌, Bool, true, false, List, [], ◌∷◌, length, slice_index_or, ⊤}
use Rattle.std.specs.List.{list_any}

-- the connections 0 to size - 1, and those of them that wait, first in first out
pub record Ring : Type 0 where
  pub size : ℕ
  pub queue : List ℕ

-- whether c waits
abbrev pub is_queued : List ℕ → ℕ → Bool
is_queued queue c = list_any (λ x. x == c) queue

-- no number comes twice
abbrev pub Distinct : List ℕ → Type 0
Distinct [] = ⊤
Distinct (x ∷ xs) = (is_queued xs x ≡ false) × Distinct xs

-- what every ring keeps: distinct numbers below its size
pub record IsRing (r : Ring) : Type 0 where
  pub distinct : Distinct r.queue
  pub below : (c : ℕ) → is_queued r.queue c ≡ true → c < r.size

-- how many connections are marked
abbrev pub marked_count : List Bool → ℕ
marked_count [] = 0
marked_count (true ∷ bs) = suc (marked_count bs)
marked_count (false ∷ bs) = marked_count bs

-- the queue has each marked connection once and no other, and room for all
pub record Marked (queue : List ℕ) (marks : List Bool) (capacity : ℕ) : Type 0 where
  pub room : length marks ≤ capacity
  pub marked : (c : ℕ) → is_queued queue c ≡ slice_index_or marks c false
  pub distinct : Distinct queue
  pub count : length queue ≡ marked_count marks
