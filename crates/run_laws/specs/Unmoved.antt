-- What a stage with several inputs or several outputs leaves out: the machines of one tell nothing of its ports when it asks and make no
-- moves, and none is a sink that ends.
use Rattle.std.specs.Prelude.{ℕ, Bool, false, List, [], ⊤}
use Rattle.port_core.specs.View.{View}

-- what a stage tells of its ports when it asks: nothing
abbrev pub NoAsking : {L : Type 0} → L → View → Type 0
NoAsking l v = ⊤

-- the moves that a stage made: none
abbrev pub no_moves : {L : Type 0} → L → List ℕ
no_moves l = []

-- whether a stage is a sink that has ended: no
abbrev pub never_ends : {L : Type 0} → L → Bool
never_ends l = false
