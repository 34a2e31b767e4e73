-- The islands that are to be woken, as an end of a lane tells its other end something.
use Rattle.std.specs.Prelude.{◌≡◌, ◌⊎◌, ◌+◌, ◌≤◌, ◌++◌, ℕ, Bool, true, false, List, Some, length, replicate, slice_get}
use Rattle.port_core.specs.Ring.{is_queued, Distinct, Marked}

-- the islands from `least` to the one before `size`, and those of them that are to be woken
pub record WokenIslands : Type 0 where
  pub least : ℕ
  pub size : ℕ
  pub queue : List ℕ

-- marks of the numbers from `least` on, behind which all others have none
abbrev pub marks_from : ℕ → List Bool → List Bool
marks_from least marks = replicate least false ++ marks

-- each marked number from `least` on is in the queue once and no other is, and there is room for all
pub record MarkedFrom (least : ℕ) (queue : List ℕ) (marks : List Bool) (capacity : ℕ) : Type 0 where
  pub room : length marks ≤ capacity
  pub marked : Marked queue (marks_from least marks) (least + length marks)

-- the island at place k of these joined those that are to be woken, where it was told something; no other did, and none came twice
pub record Added (peers : List ℕ) (k : ℕ) (told : Bool) (old new : List ℕ) : Type 0 where
  pub still : (w : ℕ) → is_queued old w ≡ true → is_queued new w ≡ true
  pub here : (w : ℕ) → told ≡ true → slice_get peers k ≡ Some w → is_queued new w ≡ true
  pub only : (w : ℕ) → is_queued new w ≡ true → (is_queued old w ≡ true) ⊎ ((told ≡ true) × (slice_get peers k ≡ Some w))
  pub once : Distinct old → Distinct new
