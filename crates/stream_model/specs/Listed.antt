-- Which wires have a list, whatever the custom stages give that tell none.
use Rattle.std.specs.Prelude.{◌≡◌, ℕ, not, Bool, true, false, slice_get, Some}
use Rattle.stream_model.specs.declared.kind.Kind.{Kind}
use Rattle.stream_model.specs.Graph.{Graph, Node, Edge}
use Rattle.stream_model.specs.Linear.{Book, Role, customs, role_of}

-- a custom stage that tells no list
abbrev pub is_untold : Book → Role → Bool
is_untold c (customs name) = not (c.tells name)
is_untold c r = false

-- the same by its kind
abbrev pub tells_none : Book → Kind → Bool
tells_none c k = is_untold c (role_of k)

module _ (g : Graph) (c : Book) where
  -- a directed walk leads to the wire from a custom stage that tells no list
  pub data Unlisted : ℕ → Type 0 where
    begins : (i : ℕ) (v : Edge) (n : Node) → slice_get g.wires i ≡ Some v → slice_get g.nodes v.from ≡ Some n → tells_none c n.kind ≡ true → Unlisted i
    goes_on : (i j : ℕ) (u v : Edge) → slice_get g.wires i ≡ Some u → slice_get g.wires j ≡ Some v → u.to ≡ v.from → Unlisted i → Unlisted j

  -- none does
  abbrev pub IsListed : ℕ → Type 0
  IsListed i = Unlisted i → ⊥

  -- none does to a wire into node k
  abbrev pub HasLists : ℕ → Type 0
  HasLists k = (i : ℕ) (v : Edge) → slice_get g.wires i ≡ Some v → v.to ≡ k → IsListed i

  -- every custom stage tells a list
  abbrev pub AllTell : Type 0
  AllTell = (k : ℕ) (n : Node) → slice_get g.nodes k ≡ Some n → tells_none c n.kind ≡ false
