use Rattle.port_core.specs.Call.{pulls}
use Rattle.stage_switch.proofs.Handling.{trip_handles, never_wants}
use Rattle.stage_switch.proofs.handlers.TripStage.on_pull.Goals as goal

pub returns-clause-handles : goal.returns-clause-handles
returns-clause-handles c = trip_handles (pulls c.args._port) _ _ _ _ c.requires.meets c.on_pull.ensures.ports c.on_pull.ensures.gives

pub returns-clause-kept : goal.returns-clause-kept
returns-clause-kept c = never_wants _ _ c.on_pull.ensures.answers
