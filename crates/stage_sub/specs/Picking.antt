-- Outputs that are given by moves: which of those that are held goes out next.
use Rattle.std.specs.Prelude.{◌≡◌, ℕ, ◌<◌, ◌==◌, if◌then◌else◌, List, [], ◌∷◌, length, slice_index_or, Option, None, Some}
use Rattle.std.specs.List.{remove}
use Rattle.std.specs.Option.{option_map}
use Rattle.stream_model.specs.FanIn.{Tagged}
use Rattle.stage_sub.specs.declared.outputs.Output.{Output}

-- what was found behind an element that stays in front
abbrev pub kept_ahead : {X : Type 0} → X → X × List X → X × List X
kept_ahead y r = (r.0, y ∷ r.1)

-- the first of a list whose number is n, and the others
abbrev pub first_by : {X : Type 0} → (X → ℕ) → ℕ → List X → Option (X × List X)
first_by number n [] = None
first_by number n (x ∷ q) = if number x == n then Some (x, q) else option_map (kept_ahead x) (first_by number n q)

-- the first output of substream n, and the others
abbrev pub first_of_sub : ℕ → List Tagged → Option (Tagged × List Tagged)
first_of_sub n l = first_by (λ (x : Tagged). x.port) n l

-- the same as outputs are kept
abbrev pub first_kept : ℕ → List Output → Option (Output × List Output)
first_kept n os = first_by (λ (o : Output). o.port) n os

-- it stands there, or none does
abbrev pub IsFirstKept : ℕ → List Output → Option ℕ → Type 0
IsFirstKept n os None = first_kept n os ≡ None
IsFirstKept n os (Some p) = (x : Output) × ((p < length os) × ((first_kept n os ≡ Some (x, remove os p)) × ((d : Output) → slice_index_or os p d ≡ x)))

-- the outputs of substream n
abbrev pub of_number : ℕ → List Tagged → List Tagged
of_number n [] = []
of_number n (x ∷ l) = if x.port == n then x ∷ of_number n l else of_number n l
