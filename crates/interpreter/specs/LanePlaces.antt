-- The lanes of an island, each with the place of its connection.
use Rattle.std.specs.Prelude.{◌≡◌, ℕ, ◌==◌, Option, Some, None, if◌then◌else◌, List, [], ◌∷◌, slice_get}
use Rattle.interpreter.specs.declared.ways.LanePlace.{LanePlace}

-- the place of the connection of the lane that is wire u, if it is among these
abbrev pub listed_place : List LanePlace → ℕ → Option ℕ
listed_place [] u = None
listed_place (x ∷ xs) u = if x.wire == u then Some x.place else listed_place xs u

-- the same, and 0 where it is not
abbrev pub place_or_none : Option ℕ → ℕ
place_or_none None = 0
place_or_none (Some q) = q

-- the place of the connection of the lane that is wire u; 0 where it is not among these
abbrev pub lane_place_of : List LanePlace → ℕ → ℕ
lane_place_of xs u = place_or_none (listed_place xs u)

-- no two of these lanes are one wire
abbrev pub HasEachOnce : List LanePlace → Type 0
HasEachOnce xs = (i j : ℕ) (x y : LanePlace) → slice_get xs i ≡ Some x → slice_get xs j ≡ Some y → x.wire ≡ y.wire → i ≡ j
