-- Which elements are of a type, and which types a function takes.
use Rattle.std.specs.Prelude.{IsTrue, List, [], ◌∷◌, Option, Some, None}
use Rattle.elem_core.specs.Sort.{Sort, num_type, text_type, seq_type, pair_type}
use Rattle.elem_core.specs.Tree.{Tree, num, text, seq, both, items}
use Rattle.stream_model.specs.Outlook.{Outlook}
use Rattle.blue_names.specs.declared.want.Want.{Want}
use Rattle.blue_names.specs.FnTypes.{suits}

-- each element of a list is so
abbrev pub Each : {A : Type 0} → (A → Type 0) → List A → Type 0
Each P [] = Unit {0}
Each P (x ∷ xs) = P x × Each P xs

-- the element is of that type: a list where each of its items is, a pair where both halves are
abbrev pub HasType : Sort → Tree → Type 0
HasType num_type (num z) = Unit {0}
HasType text_type (text bs) = Unit {0}
HasType (seq_type t) (seq r) = Each (HasType t) (items r)
HasType (pair_type t u) (both a b) = HasType t a × HasType u b
HasType _ _ = ⊥

-- all elements of a list are of that type
abbrev pub AllTyped : Sort → List Tree → Type 0
AllTyped t xs = Each (HasType t) xs

-- all elements that may pass these wires are
abbrev pub OutlooksTyped : Sort → List Outlook → Type 0
OutlooksTyped t os = Each (λ (o : Outlook). AllTyped t o.list) os

-- a function that wants no type in particular takes each; any other takes those that are wanted
abbrev pub TakesSort : Option Want → Sort → Type 0
TakesSort None t = Unit {0}
TakesSort (Some w) t = IsTrue (suits w t)
