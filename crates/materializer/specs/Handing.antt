-- How one plug after the other is handed out of those that are left.
use Rattle.std.specs.Prelude.{◌≡◌, ℕ, List, map, slice_get, Option, Some, None}
use Rattle.std.specs.List.{remove}
use Rattle.elem_core.specs.Values.{same_text}
use Rattle.blue_names.specs.First.{first_from, when}
use Rattle.plug_logic.specs.declared.plug.Plug.{Plug}

-- the names of these plugs
abbrev pub names_of : {L : Type 0} → List (Plug L) → List (List ℕ)
names_of plugs = map (λ p. p.head.name) plugs

-- the place of the first plug of this name
abbrev pub plug_place : {L : Type 0} → List ℕ → List (Plug L) → Option ℕ
plug_place name plugs = first_from (λ k p. when (same_text name p.head.name) k) 0 plugs

-- p is a plug of this name among the old ones, and the others are left
pub record IsTaken {L : Type 0} (name : List ℕ) (old : List (Plug L)) (p : Plug L) (new : List (Plug L)) : Type 0 where
  pub at : ℕ
  pub there : slice_get old at ≡ Some p
  pub named : p.head.name ≡ name
  pub left : new ≡ remove old at

-- a node that names this plug, if it names one, is handed one of that name, and the others are left; else it is handed none
abbrev pub IsHandedPlug : {L : Type 0} → Option (List ℕ) → List (Plug L) → Option (Plug L) → List (Plug L) → Type 0
IsHandedPlug None old e new = (e ≡ None) × (new ≡ old)
IsHandedPlug {L} (Some name) old e new = (p : Plug L) × ((e ≡ Some p) × IsTaken name old p new)
