-- The units for some wires.
use Rattle.std.specs.Prelude.{ℕ, List, map, sum, Option, Some, None, slice_get}
use Rattle.stream_model.specs.Graph.{Edge}
use Rattle.stream_model.specs.Shape.{units_of}

-- the units for a wire where it carries n; none where there is no such wire
abbrev pub units_on : Option Edge → ℕ → ℕ
units_on None n = 0
units_on (Some w) n = units_of w.lane n

-- the units for wire i where it carries as many elements as f says; none where there is no such wire
abbrev pub units_at : List Edge → (ℕ → ℕ) → ℕ → ℕ
units_at ws f i = units_on (slice_get ws i) (f i)

-- the same of some wires, by their numbers
abbrev pub some_units : List Edge → (ℕ → ℕ) → List ℕ → ℕ
some_units ws f numbers = sum (map (units_at ws f) numbers)
