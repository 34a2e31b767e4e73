-- What the stages of a run chose.
use Rattle.std.specs.Prelude.{◌≡◌, ℕ, ◌+◌, List, [], ◌∷◌, map, slice_get, Some, if◌then◌else◌}
use Rattle.stream_model.specs.Node.{World}
use Rattle.stream_model.specs.declared.blueprint.Node.{Node}
use Rattle.blue_names.specs.Picks.{picks}
use Rattle.interpreter.specs.Picks.{Pick}

-- the numbers of the stages whose kinds choose among these nodes, which are numbered from k
abbrev pub pick_places : ℕ → List Node → List ℕ
pick_places k [] = []
pick_places k (n ∷ ns) = if picks n.kind then k ∷ pick_places (k + 1) ns else pick_places (k + 1) ns

-- the numbers of the stages that chose
abbrev pub picked : List Pick → List ℕ
picked ps = map (λ (p : Pick). p.0) ps

-- the world has these moves
abbrev pub HasPicks : List Pick → World → Type 0
HasPicks ps w = (i : ℕ) (p : Pick) → slice_get ps i ≡ Some p → w.moves p.0 ≡ p.1
