-- The least node that could not make its next move.
-- Choice: docs/DECISIONS.md#least-misfit
use Rattle.std.specs.Prelude.{◌≡◌, ◌≤◌, ℕ, nat_lt, if◌then◌else◌, List, [], ◌∷◌, slice_get, Option, None, Some}
use Rattle.nodes.specs.Nodes.{node_misfit}
use Rattle.nodes.specs.declared.node.IslandNode.{IslandNode}

-- a node by its number, and the place of the move that it could not make
abbrev pub Found : Type 0
Found = ℕ × ℕ

-- the lesser of two nodes, and the first where both are one
abbrev pub least : Option Found → Option Found → Option Found
least None other = other
least (Some p) None = Some p
least (Some p) (Some q) = if nat_lt q.0 p.0 then Some q else Some p

-- the least of several
abbrev pub least_all : List (Option Found) → Option Found
least_all [] = None
least_all (m ∷ ms) = least m (least_all ms)

-- the move of node k that could not be made, where it found one
abbrev pub found_at : ℕ → Option ℕ → Option Found
found_at k None = None
found_at k (Some place) = Some (k, place)

-- the least of these nodes, which have these numbers
abbrev pub least_of : {S D L H B : Type 0} → List ℕ → List (IslandNode S D L H B) → Option Found
least_of (k ∷ ks) (x ∷ xs) = least (found_at k (node_misfit x)) (least_of ks xs)
least_of _ _ = None

-- node k is among these, which have these numbers, and could not make the move at this place
pub record FindsMisfit {S D L H B : Type 0} (numbers : List ℕ) (nodes : List (IslandNode S D L H B)) (k place : ℕ) : Type 0 where
  pub at : ℕ
  pub node : IslandNode S D L H B
  pub number : slice_get numbers at ≡ Some k
  pub there : slice_get nodes at ≡ Some node
  pub found : node_misfit node ≡ Some place

-- it is found, and none that is found is lesser; or none is found
abbrev pub IsLeast : (ℕ → ℕ → Type 0) → Option Found → Type 0
IsLeast F None = (k place : ℕ) → F k place → ⊥
IsLeast F (Some p) = F p.0 p.1 × ((k place : ℕ) → F k place → p.0 ≤ k)
