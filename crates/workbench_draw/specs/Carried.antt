-- How many elements each wire carries, where sources give so many and every stage passes all on.
use Rattle.std.specs.Prelude.{ℕ, ◌+◌, ◌==◌, if◌then◌else◌, List, [], ◌∷◌, map, slice_get, unwrap_or}
use Rattle.stream_model.specs.Graph.{Edge}
use Rattle.stream_model.specs.declared.blueprint.Node.{Node}
use Rattle.stream_model.specs.Composed.{inputs_by}

-- the number at a place; 0 where there is none
abbrev pub number_at : List ℕ → ℕ → ℕ
number_at ns i = unwrap_or (slice_get ns i) 0

-- how many sources there are: nodes without inputs
abbrev pub source_count : List Node → ℕ
source_count [] = 0
source_count (n ∷ ns) = (if inputs_by (1, 1) n.kind == 0 then 1 else 0) + source_count ns

-- the first count; 0 where there is none
abbrev pub next_count : List ℕ → ℕ
next_count [] = 0
next_count (c ∷ cs) = c

-- the counts behind the first
abbrev pub later_counts : List ℕ → List ℕ
later_counts [] = []
later_counts (c ∷ cs) = cs

-- what each node gives of its own: a source the count of its place among sources, any other node none
abbrev pub own_elements : List Node → List ℕ → List ℕ
own_elements [] counts = []
own_elements (n ∷ ns) counts = if inputs_by (1, 1) n.kind == 0 then next_count counts ∷ own_elements ns (later_counts counts) else 0 ∷ own_elements ns counts

-- what the wires from number i on carry into node a, where f tells what each wire carries
abbrev pub into : ℕ → List Edge → (ℕ → ℕ) → ℕ → ℕ
into i [] f a = 0
into i (w ∷ ws) f a = (if w.to == a then f i else 0) + into (i + 1) ws f a

-- what node a passes on: what it has of its own and what comes to it
abbrev pub passed_on : List ℕ → List Edge → (ℕ → ℕ) → ℕ → ℕ
passed_on owns ws f a = number_at owns a + into 0 ws f a

-- what each wire carries where its node passes all on
abbrev pub passed_all : List ℕ → List Edge → (ℕ → ℕ) → List ℕ
passed_all owns ws f = map (λ w. passed_on owns ws f w.from) ws
