use Rattle.port_core.specs.Call.{arrives}
use Rattle.elem_core.specs.declared.item.Item.TheVariants as item
use Rattle.stage_switch.proofs.Handling.{trip_handles, never_wants}
use Rattle.stage_switch.proofs.handlers.TripStage.on_fail.Goals as goal

pub returns-clause-handles : goal.returns-clause-handles
returns-clause-handles c = trip_handles (arrives c.args._port (item.Failed c.args.cause)) _ _ _ _ c.requires.meets c.on_fail.ensures.ports c.on_fail.ensures.gives

pub returns-clause-kept : goal.returns-clause-kept
returns-clause-kept c = never_wants _ _ c.on_fail.ensures.answers
