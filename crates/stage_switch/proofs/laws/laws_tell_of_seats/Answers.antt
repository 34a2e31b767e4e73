use Rattle.stage_switch.proofs.Outlooks.{valve_seat, trip_seat}
use Rattle.stage_switch.proofs.laws.laws_tell_of_seats.Goals as goal

pub returns-clause-valve : goal.returns-clause-valve
returns-clause-valve c = valve_seat

pub returns-clause-trip : goal.returns-clause-trip
returns-clause-trip c = trip_seat
