-- What a round fixes.
use Rattle.std.specs.Prelude.{◌≡◌, ℕ, ◌==◌, ◌<◌, true, false, is_some, if◌then◌else◌, List, [], ◌∷◌, length, slice_get, Option, Some, None}
use Rattle.std.specs.Option.{option_or}
use Rattle.elem_core.specs.Sort.{Sort}
use Rattle.stream_model.specs.Graph.{Edge}
use Rattle.blue_names.specs.First.{when}
use Rattle.blue_types.specs.declared.news.Fixed.{Fixed}
use Rattle.blue_names.specs.Members.{is_in}

-- the type that the first of these gives a node
abbrev pub news_at : List Fixed → ℕ → Option Sort
news_at [] i = None
news_at (f ∷ fs) i = option_or (when (f.node == i) f.fixed) (news_at fs i)

-- the news of the nodes of a list: of those without a type, what each would fix
pub record AreNews (types fix : ℕ → Option Sort) (front : List ℕ) (news : List Fixed) : Type 0 where
  pub of_node : (i : ℕ) → types i ≡ None → news_at news i ≡ (if is_in i front then fix i else None)

-- only nodes of that list have anything to fix
pub record RestsOn (types fix : ℕ → Option Sort) (front : List ℕ) : Type 0 where
  pub others : (i : ℕ) → types i ≡ None → is_in i front ≡ false → fix i ≡ None

-- the targets of the wires out of nodes with news, and without a type before, are in the list
pub record AreReached (ws : List Edge) (types : ℕ → Option Sort) (news : List Fixed) (front : List ℕ) : Type 0 where
  pub target : (i : ℕ) (w : Edge) → slice_get ws i ≡ Some w → types w.from ≡ None → is_some (news_at news w.from) ≡ true → is_in w.to front ≡ true

-- each is of a node below n
abbrev pub AreBelow : ℕ → List Fixed → Type 0
AreBelow n [] = Unit {0}
AreBelow n (f ∷ fs) = (f.node < n) × AreBelow n fs
