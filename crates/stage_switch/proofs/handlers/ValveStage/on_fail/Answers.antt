use Rattle.port_core.specs.Call.{arrives}
use Rattle.elem_core.specs.declared.item.Item.TheVariants as item
use Rattle.stage_switch.proofs.Handling.{valve_handles, valve_grows, valve_keeps}
use Rattle.stage_switch.proofs.handlers.ValveStage.on_fail.Goals as goal

pub returns-clause-handles : goal.returns-clause-handles
returns-clause-handles c = valve_handles (arrives c.args._port (item.Failed c.args.cause)) _ _ _ _ c.requires.meets c.on_fail.ensures.ports c.on_fail.ensures.gives

pub returns-clause-grows : goal.returns-clause-grows
returns-clause-grows c = valve_grows (arrives c.args._port (item.Failed c.args.cause)) _ _ _ _ (λ s. cc) c.requires.meets c.on_fail.ensures.gives

pub returns-clause-kept : goal.returns-clause-kept
returns-clause-kept c = valve_keeps _ _ _ _ c.on_fail.ensures.refused
