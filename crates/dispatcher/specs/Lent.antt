-- A turn after a write of its value.
use Rattle.std.specs.Prelude.{ℕ}
use Rattle.dispatcher.specs.declared.turns.Turn.{Turn}

-- the turn of place `id` with this value
abbrev pub turn_with : {T : Type 0} → ℕ → T → Turn T
turn_with id x = record { id = id; value = x }
