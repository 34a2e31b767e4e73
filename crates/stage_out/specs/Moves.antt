-- What stages with several outputs choose. A stage that chooses keeps a log of its moves.
use Rattle.std.specs.Prelude.{◌≡◌, ℕ, List, [], Option, Some, None}
use Rattle.std.specs.Option.{unwrap_or}
use Rattle.port_core.specs.Picks.{planned, misfit_by}
use Rattle.stream_model.specs.Node.{World}
use Rattle.stage_out.specs.declared.logic.OutLogic.{OutLogic}
use Rattle.stage_out.specs.declared.logic.OutLogic.TheVariants.{Machines, Balances}

-- the moves that it has recorded, where its kind chooses: a balance alone does
abbrev pub out_picks : OutLogic → Option (List ℕ)
out_picks (Machines l) = None
out_picks (Balances l) = Some l.log.moves

-- the place of the move that it cannot make, where it found one
abbrev pub out_misfit : OutLogic → Option ℕ
out_misfit (Machines l) = None
out_misfit (Balances l) = misfit_by l.log.stuck l.log.moves

-- all the moves that it follows, where it follows any: a balance alone may
abbrev pub out_plan : OutLogic → Option (List ℕ)
out_plan (Machines l) = None
out_plan (Balances l) = planned l.log

-- the moves that it has recorded, and none where its kind does not choose
abbrev pub out_moves : OutLogic → List ℕ
out_moves l = unwrap_or (out_picks l) []

-- the world has the moves of node `node` as the stage has recorded them, where its kind chooses
abbrev pub TellsMoves : World → ℕ → OutLogic → Type 0
TellsMoves w node l = (moves : List ℕ) → out_picks l ≡ Some moves → w.moves node ≡ moves
