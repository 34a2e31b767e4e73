-- What stages with several inputs choose. A stage that chooses keeps a log of its moves.
use Rattle.std.specs.Prelude.{◌≡◌, ℕ, List, [], Option, Some, None}
use Rattle.std.specs.Option.{unwrap_or}
use Rattle.port_core.specs.Picks.{planned, misfit_by}
use Rattle.stream_model.specs.Node.{World}
use Rattle.stage_in.specs.declared.logic.InLogic.{InLogic}
use Rattle.stage_in.specs.declared.logic.InLogic.TheVariants as logic

-- the moves that it has recorded, where its kind chooses: a merge and a merge hub alone do
abbrev pub in_picks : InLogic → Option (List ℕ)
in_picks (logic.Taking l) = None
in_picks (logic.Sorting l) = None
in_picks (logic.Zipping l) = None
in_picks (logic.Merging l) = Some l.log.moves

-- the moves that it has recorded, and none where its kind does not choose
abbrev pub in_moves : InLogic → List ℕ
in_moves l = unwrap_or (in_picks l) []

-- all the moves that it follows, where it follows any: a merge alone may
abbrev pub in_plan : InLogic → Option (List ℕ)
in_plan (logic.Taking l) = None
in_plan (logic.Sorting l) = None
in_plan (logic.Zipping l) = None
in_plan (logic.Merging l) = planned l.log

-- the place of the move that it cannot make, where it found one
abbrev pub in_misfit : InLogic → Option ℕ
in_misfit (logic.Taking l) = None
in_misfit (logic.Sorting l) = None
in_misfit (logic.Zipping l) = None
in_misfit (logic.Merging l) = misfit_by l.log.stuck l.log.moves

-- the world has the moves of node `node` as the stage has recorded them, where its kind chooses
abbrev pub TellsMoves : World → ℕ → InLogic → Type 0
TellsMoves w node l = (moves : List ℕ) → in_picks l ≡ Some moves → w.moves node ≡ moves
