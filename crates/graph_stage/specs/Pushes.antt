-- Only elements of an output's type are pushed there.
use Rattle.std.specs.Prelude.{◌≡◌, true, List, [], ◌∷◌, slice_get, Option, Some, None, ⊤}
use Rattle.elem_core.specs.Sort.{Sort}
use Rattle.elem_core.specs.Tree.{Tree}
use Rattle.port_core.specs.declared.act.Act.{Act}
use Rattle.port_core.specs.declared.act.Act.TheVariants as act
use Rattle.elem_core.specs.Typed.{is_of}

-- the element is of that type
abbrev pub IsOf : Option Sort → Tree → Type 0
IsOf None e = ⊥
IsOf (Some t) e = is_of t e ≡ true

-- each push is of an element of its output's type
abbrev pub PushesTyped : List Sort → List Act → Type 0
PushesTyped types [] = ⊤
PushesTyped types (act.Push j e ∷ acts) = IsOf (slice_get types j) e × PushesTyped types acts
PushesTyped types (act.Pull i ∷ acts) = PushesTyped types acts
PushesTyped types (act.Complete j ∷ acts) = PushesTyped types acts
PushesTyped types (act.FailOut j c ∷ acts) = PushesTyped types acts
PushesTyped types (act.Cancel i ∷ acts) = PushesTyped types acts
