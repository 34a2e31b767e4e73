-- The rule on closed walks: no wire lies on one that follows wires from output to input.
use Rattle.std.specs.Prelude.{◌≡◌, ℕ, ◌≤◌, List, slice_get, Option, Some}
use Rattle.stream_model.specs.Graph.{Edge}

module _ (ws : List Edge) where
  -- a wire from one node to another
  pub record Leads (a b : ℕ) : Type 0 where
    pub wire : ℕ
    pub is : Edge
    pub at : slice_get ws wire ≡ Some is
    pub from : is.from ≡ a
    pub to : is.to ≡ b

  -- a walk along wires: it goes through a node from any input to any output
  pub data Path : ℕ → ℕ → Type 0 where
    stay : {a : ℕ} → Path a a
    along : {a b c : ℕ} → Leads a b → Path b c → Path a c

  -- the wire lies on a closed walk: a walk leads back from its end to its beginning
  pub record LiesOnClosedWalk (i : ℕ) : Type 0 where
    pub wire : Edge
    pub at : slice_get ws i ≡ Some wire
    pub back : Path wire.to wire.from

  -- the first wire that lies on a closed walk
  pub record IsFirstClosed (i : ℕ) : Type 0 where
    pub lies : LiesOnClosedWalk i
    pub least : (j : ℕ) → LiesOnClosedWalk j → i ≤ j

  -- no wire lies on a closed walk
  pub record HasNoClosedWalk : Type 0 where
    pub none : (j : ℕ) → LiesOnClosedWalk j → ⊥
