-- What the workers share.
use Rattle.std.specs.Prelude.{◌≡◌, ℕ, length}
use Rattle.std.specs.List.{All}
use Rattle.atomic_table.specs.Seated.{TableId}
use Rattle.dispatcher.specs.declared.turns.Turns.{Turns}
use Rattle.dispatcher.specs.PublicTurns.{handed_in}
use Rattle.dispatcher.specs.declared.origin.PlaceOrigin.{PlaceOrigin}
use Rattle.dispatcher.specs.Places.{Belongs}

-- so many places of one budget are in a table
abbrev pub IsCrew : {B : Type 0} → Turns (PlaceOrigin B) (PlaceOrigin B) → TableId → ℕ → ℕ → Type 0
IsCrew turns table limit n = (length (handed_in turns) ≡ n) × All (Belongs table limit) (handed_in turns)
