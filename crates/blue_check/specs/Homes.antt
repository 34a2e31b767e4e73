-- The numbers of labels, in the order of the least node of each.
use Rattle.std.specs.Prelude.{◌≡◌, ℕ, ◌<◌, ◌≤◌, ◌⊎◌, List, [], ◌∷◌, ◌++◌, length, slice_get, slice_index, slice_set, Option, Some, None}

-- the number of each node's label, and the least node of each number
pub record AreNumbered (labels homes firsts : List ℕ) : Type 0 where
  pub here : (a : ℕ) → a < length homes → slice_index homes a < length firsts
  pub alike : (a : ℕ) → a < length homes → slice_index labels (slice_index firsts (slice_index homes a)) ≡ slice_index labels a
  pub least : (a : ℕ) → a < length homes → slice_index firsts (slice_index homes a) ≤ a
  pub first : (k : ℕ) → k < length firsts → (slice_index firsts k < length homes) × (slice_index homes (slice_index firsts k) ≡ k)
  pub rising : (j k : ℕ) → j < k → k < length firsts → slice_index firsts j < slice_index firsts k
  pub apart : (j k : ℕ) → j < length firsts → k < length firsts → slice_index labels (slice_index firsts j) ≡ slice_index labels (slice_index firsts k) → j ≡ k

-- a label that had no number gets the next one, and a node as its first
pub record IsNewNumber (old new : List (Option ℕ)) (firsts firsts' : List ℕ) (label node number : ℕ) : Type 0 where
  pub had : slice_get old label ≡ Some None
  pub next : number ≡ length firsts
  pub set : new ≡ slice_set old label (Some number)
  pub more : firsts' ≡ firsts ++ node ∷ []

-- a label had this number, and all is as it was
pub record IsOld (old new : List (Option ℕ)) (firsts firsts' : List ℕ) (label number : ℕ) : Type 0 where
  pub had : slice_get old label ≡ Some (Some number)
  pub kept : new ≡ old
  pub same : firsts' ≡ firsts

-- a node got the number that its label had, or its label got the next number
pub record IsNumbered (old new : List (Option ℕ)) (firsts firsts' : List ℕ) (label node number : ℕ) : Type 0 where
  pub either : IsOld old new firsts firsts' label number ⊎ IsNewNumber old new firsts firsts' label node number
