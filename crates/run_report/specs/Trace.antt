-- The moves that a list of picks tells, of which the trace has a line for each stage whose kind chooses.
use Rattle.std.specs.Prelude.{ℕ, List}
use Rattle.stream_model.specs.declared.outcome.PickList.{PickList}

-- the moves that a list of picks tells
abbrev pub moves_in : PickList → List ℕ
moves_in p = p.moves.items
