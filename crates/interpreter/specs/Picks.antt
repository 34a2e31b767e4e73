-- What the stages of an island chose.
use Rattle.std.specs.Prelude.{ℕ, Option, None, Some, List, [], ◌∷◌}
use Rattle.stream_model.specs.declared.outcome.PickList.{PickList}
use Rattle.nodes.specs.Nodes.{node_picks}
use Rattle.nodes.specs.declared.node.IslandNode.{IslandNode}
use Rattle.interpreter.specs.declared.parts.Seated.{Seated}

-- the number of the blueprint's node that stands at a place
abbrev pub place_number : {S D L H B : Type 0} → Seated S D L H B → ℕ
place_number s = s.node

-- the number of a stage that chooses, and its moves
abbrev pub Pick : Type 0
Pick = ℕ × List ℕ

-- what a list of picks says
abbrev pub pick_of : PickList → Pick
pick_of p = (p.stage, p.moves.items)

-- a node's number with its moves, in front of the picks of others, where it chooses
abbrev pub with_picks : ℕ → Option (List ℕ) → List Pick → List Pick
with_picks k None rest = rest
with_picks k (Some moves) rest = (k, moves) ∷ rest

-- the moves of each node whose kind chooses, with its number, in order of nodes
abbrev pub picks_of : {S D L H B : Type 0} → List ℕ → List (IslandNode S D L H B) → List Pick
picks_of (k ∷ ks) (x ∷ xs) = with_picks k (node_picks x) (picks_of ks xs)
picks_of _ _ = []
