use Rattle.port_core.specs.Call.{pulls}
use Rattle.stage_switch.proofs.Handling.{valve_handles, valve_grows, valve_keeps}
use Rattle.stage_switch.proofs.handlers.ValveStage.on_pull.Goals as goal

pub returns-clause-handles : goal.returns-clause-handles
returns-clause-handles c = valve_handles (pulls c.args._port) _ _ _ _ c.requires.meets c.on_pull.ensures.ports c.on_pull.ensures.gives

pub returns-clause-grows : goal.returns-clause-grows
returns-clause-grows c = valve_grows (pulls c.args._port) _ _ _ _ (λ s. cc) c.requires.meets c.on_pull.ensures.gives

pub returns-clause-kept : goal.returns-clause-kept
returns-clause-kept c = valve_keeps _ _ _ _ c.on_pull.ensures.refused
