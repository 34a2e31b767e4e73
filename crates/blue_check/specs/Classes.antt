-- Labels of nodes, and lists of the nodes of each label.
use Rattle.std.specs.Prelude.{◌≡◌, ℕ, ◌<◌, ◌≤◌, ◌==◌, ◌⊎◌, true, List, ◌∷◌, length, slice_index, if◌then◌else◌}
use Rattle.std.specs.declared.vec.Vec.{Vec}
use Rattle.std.specs.declared.alloc.Global.{Global}
use Rattle.blue_names.specs.Outs.{row_at}
use Rattle.blue_names.specs.Members.{is_in}

-- each node stands in the list of its label, but for one whose number the label is; there are no fewer lists than nodes
pub record AreListed (labels : List ℕ) (rows : List (Vec ℕ Global)) : Type 0 where
  pub many : length labels ≤ length rows
  pub listed : (i : ℕ) → i < length labels → is_in i (slice_index labels i ∷ row_at rows (slice_index labels i)) ≡ true

-- the nodes of one label have got another, and the others have what they had
pub record IsRelabeled (old new : List ℕ) (from to : ℕ) : Type 0 where
  pub at : (i : ℕ) → i < length old → slice_index new i ≡ (if slice_index old i == from then to else slice_index old i)

-- the nodes of one of two labels have got the other
pub record AreMerged (old new : List ℕ) (a b : ℕ) : Type 0 where
  pub either : IsRelabeled old new a b ⊎ IsRelabeled old new b a
