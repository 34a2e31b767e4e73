use Rattle.stage_switch.proofs.Handling.{valve_started, valve_handled, trip_started, trip_handled}
use Rattle.stage_switch.proofs.laws.calls_keep_the_law.Goals as goal

pub returns-clause-valve_starts : goal.returns-clause-valve_starts
returns-clause-valve_starts c = valve_started

pub returns-clause-valve_handles : goal.returns-clause-valve_handles
returns-clause-valve_handles c = valve_handled

pub returns-clause-trip_starts : goal.returns-clause-trip_starts
returns-clause-trip_starts c = trip_started

pub returns-clause-trip_handles : goal.returns-clause-trip_handles
returns-clause-trip_handles c = trip_handled
