use Rattle.port_core.specs.Call.{cancels}
use Rattle.stage_switch.proofs.Handling.{trip_handles, never_wants}
use Rattle.stage_switch.proofs.handlers.TripStage.on_cancel.Goals as goal

pub returns-clause-handles : goal.returns-clause-handles
returns-clause-handles c = trip_handles (cancels c.args._port) _ _ _ _ c.requires.meets c.on_cancel.ensures.ports c.on_cancel.ensures.gives

pub returns-clause-kept : goal.returns-clause-kept
returns-clause-kept c = never_wants _ _ c.on_cancel.ensures.answers
