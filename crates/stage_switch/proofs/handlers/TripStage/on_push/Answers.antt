use Rattle.port_core.specs.Call.{arrives}
use Rattle.elem_core.specs.declared.item.Item.TheVariants as item
use Rattle.stage_switch.proofs.Handling.{trip_handles, trip_keeps}
use Rattle.stage_switch.proofs.handlers.TripStage.on_push.Goals as goal

pub returns-clause-handles : goal.returns-clause-handles
returns-clause-handles c = trip_handles (arrives c.args._port (item.Elem c.args.e)) _ _ _ _ c.requires.meets c.on_push.ensures.ports c.on_push.ensures.gives

pub returns-clause-kept : goal.returns-clause-kept
returns-clause-kept c = trip_keeps _ _ _ _ c.on_push.ensures.refused
