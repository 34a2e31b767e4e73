use Rattle.stage_switch.proofs.Nodes.{valve_tells, trip_tells}
use Rattle.stage_switch.proofs.switch_laws.node_laws_tell_of_seats.Goals as goal

pub returns-clause-valve : goal.returns-clause-valve
returns-clause-valve c = valve_tells

pub returns-clause-trip : goal.returns-clause-trip
returns-clause-trip c = trip_tells
