-- What stages with state choose, and their seats at kill switches. A stage that chooses keeps a log of its moves.
use Rattle.std.specs.Prelude.{ℕ, List, [], Option, Some, None}
use Rattle.std.specs.Option.{unwrap_or}
use Rattle.port_core.specs.Picks.{plan_of, planned, misfit_by}
use Rattle.stage_switch.specs.Public.{SeatState}
use Rattle.stage_state.specs.declared.logic.StateLogic.{StateLogic}
use Rattle.stage_state.specs.declared.logic.StateLogic.TheVariants.{Machine, Dropping, Recovering, Obeying, Tripping}

-- the moves that it has recorded, where its kind chooses
abbrev pub state_picks : StateLogic → Option (List ℕ)
state_picks (Machine l) = None
state_picks (Dropping l) = Some l.log.moves
state_picks (Recovering l) = Some l.moves
state_picks (Obeying l) = Some l.moves
state_picks (Tripping l) = None

-- the moves that it has recorded, and none where its kind does not choose
abbrev pub state_moves : StateLogic → List ℕ
state_moves l = unwrap_or (state_picks l) []

-- the moves that it follows still, where it follows any
abbrev pub state_left : StateLogic → Option (List ℕ)
state_left (Machine l) = None
state_left (Dropping l) = l.log.left
state_left (Recovering l) = l.left
state_left (Obeying l) = l.left
state_left (Tripping l) = None

-- the place of the move that it cannot make, where it found one
abbrev pub state_misfit : StateLogic → Option ℕ
state_misfit (Machine l) = None
state_misfit (Dropping l) = misfit_by l.log.stuck l.log.moves
state_misfit (Recovering l) = misfit_by l.stuck l.moves
state_misfit (Obeying l) = misfit_by l.stuck l.moves
state_misfit (Tripping l) = None

-- all the moves that it follows, where it follows any
abbrev pub state_plan : StateLogic → Option (List ℕ)
state_plan (Machine l) = None
state_plan (Dropping l) = planned l.log
state_plan (Recovering l) = plan_of l.moves l.left
state_plan (Obeying l) = plan_of l.moves l.left
state_plan (Tripping l) = None

-- the seat that a valve or a trip has at its switch
abbrev pub state_seat : StateLogic → Option SeatState
state_seat (Machine l) = None
state_seat (Dropping l) = None
state_seat (Recovering l) = None
state_seat (Obeying l) = Some l.seat
state_seat (Tripping l) = Some l.seat
