-- Where in a queue the first element of an input stands.
use Rattle.std.specs.Prelude.{◌≡◌, ℕ, ◌<◌, List, length, slice_index_or, Option, None, Some}
use Rattle.std.specs.List.{remove}
use Rattle.stage_merge.specs.declared.merging.Queued.{Queued}
use Rattle.stage_merge.specs.Mergings.{first_queued}

-- it stands there, or none does
abbrev pub IsFirstAt : ℕ → List Queued → Option ℕ → Type 0
IsFirstAt m q None = first_queued m q ≡ None
IsFirstAt m q (Some p) = (x : Queued) × ((p < length q) × ((first_queued m q ≡ Some (x, remove q p)) × ((d : Queued) → slice_index_or q p d ≡ x)))
