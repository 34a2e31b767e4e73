use Rattle.stage_switch.proofs.Rows.{valve_rests, valve_stops, valve_cause, valve_waits, trip_rests}
use Rattle.stage_switch.proofs.laws.a_started_stage_rests.Goals as goal

pub returns-clause-valve : goal.returns-clause-valve
returns-clause-valve c = valve_rests

pub returns-clause-misfit : goal.returns-clause-misfit
returns-clause-misfit c = valve_stops

pub returns-clause-cause : goal.returns-clause-cause
returns-clause-cause c = valve_cause

pub returns-clause-waits : goal.returns-clause-waits
returns-clause-waits c = valve_waits

pub returns-clause-trip : goal.returns-clause-trip
returns-clause-trip c = trip_rests
