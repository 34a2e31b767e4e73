use Rattle.stage_core.proofs.OnOks.{on_ok_two}
use Rattle.stage_switch.proofs.Handling.{trip_started, trip_start_keeps}
use Rattle.stage_switch.proofs.handlers.TripStage.start.Goals as goal

pub returns-clause-starts : goal.returns-clause-starts
returns-clause-starts c = on_ok_two _ c.start.ensures.ports c.start.ensures.gives (λ o t. trip_started _ _ _ o t)

pub returns-clause-kept : goal.returns-clause-kept
returns-clause-kept c = trip_start_keeps _ _ _ _ c.start.ensures.answers c.start.ensures.gives
