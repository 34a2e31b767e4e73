-- The names of sources and of drains.
use Rattle.std.specs.Prelude.{◌≡◌, ℕ, List, slice_get, Some, map}
use Rattle.stream_io.specs.State.{SourceState, DrainState}

-- the names of these sources
abbrev pub source_names : List SourceState → List (List ℕ)
source_names is = map (λ i. i.name) is

-- the names of these drains
abbrev pub drain_names : List DrainState → List (List ℕ)
drain_names os = map (λ o. o.name) os

-- no name stands at two places
abbrev pub DistinctNames : List (List ℕ) → Type 0
DistinctNames names = (i j : ℕ) (n : List ℕ) → slice_get names i ≡ Some n → slice_get names j ≡ Some n → i ≡ j
