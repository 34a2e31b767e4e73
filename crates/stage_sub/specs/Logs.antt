-- The log of a stage that joins its substreams by `merge`.
use Rattle.std.specs.Prelude.{◌<◌, ⊤, ℕ, List, Option, Some, None}
use Rattle.std.specs.Option.{option_map}
use Rattle.port_core.specs.Picks.{Picks}

-- the moves in it, where there is a log
abbrev pub moves_in : Option Picks → Option (List ℕ)
moves_in log = option_map (λ p. p.moves) log

-- there is room for one more move, where there is a log
abbrev pub HasRoom : Option Picks → Type 0
HasRoom None = ⊤
HasRoom (Some p) = 0 < p.room
