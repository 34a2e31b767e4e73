-- The names of a body's nodes and instances.
use Rattle.std.specs.Prelude.{◌≡◌, ℕ, ◌+◌, Bool, false, if◌then◌else◌, List, [], ◌∷◌, Option, Some, None}
use Rattle.std.specs.HashMap.{HashMap}
use denote.Ref.{Bor}
use Rattle.elem_core.specs.Values.{same_text}
use Rattle.blue_modules.specs.declared.text.Entry.{Entry}
use Rattle.blue_modules.specs.declared.text.Entry.TheVariants.{Node, Instance, Wire}
use Rattle.blue_names.specs.Table.{number_in}

-- the entry is a node or an instance of that name
abbrev pub is_called : List ℕ → Entry → Bool
is_called q (Node n) = same_text q n.name
is_called q (Instance u) = same_text q u.name
is_called q (Wire w) = false

-- the first node or instance of that name
abbrev pub entry_named : List ℕ → List Entry → Option Entry
entry_named q [] = None
entry_named q (e ∷ es) = if is_called q e then Some e else entry_named q es

-- its place; places are numbered from n
abbrev pub place_from : List ℕ → ℕ → List Entry → Option ℕ
place_from q n [] = None
place_from q n (e ∷ es) = if is_called q e then Some n else place_from q (n + 1) es

-- a table has the place of each name of a body
pub record ArePlaces {S : Type 0} (m : HashMap (Bor (List ℕ)) ℕ S) (entries : List Entry) : Type 0 where
  pub at : (q : List ℕ) → number_in m q ≡ place_from q 0 entries

-- the module of an instance, by its name
abbrev pub module_of : Option Entry → Option (List ℕ)
module_of None = None
module_of (Some (Node n)) = None
module_of (Some (Instance u)) = Some u.of
module_of (Some (Wire w)) = None
