-- What the visits of the wires out of one node have marked.
use Rattle.std.specs.Prelude.{◌≡◌, ℕ, ◌≤◌, Bool, true, List, length, slice_get, Some}
use Rattle.std.proofs.Common.{take}
use Rattle.stream_model.specs.Graph.{Edge}
use Rattle.blue_names.specs.Paths.{Path}
use Rattle.blue_names.specs.Members.{is_in}
use Rattle.blue_check.specs.Marks.{Reaches}

-- the visits of the first wires of a row, from one list of nodes to another
pub record Visits (ws : List Edge) (node count : ℕ) (marks marks' : List Bool) (order order' : List ℕ) (row : List ℕ) : Type 0 where
  pub reaches : (start : ℕ) → Path ws start node → Reaches ws start count marks order → Reaches ws start count marks' order'
  pub leads : (start : ℕ) → Path ws start node → Reaches ws start count marks order → (i : ℕ) (w : Edge) → slice_get ws i ≡ Some w → is_in i row ≡ true
      → is_in w.to order' ≡ true
  pub longer : length order ≤ length order'
  pub front : (k : ℕ) → k ≤ length order → take k order' ≡ take k order
  pub kept : (i : ℕ) → is_in i order ≡ true → is_in i order' ≡ true
