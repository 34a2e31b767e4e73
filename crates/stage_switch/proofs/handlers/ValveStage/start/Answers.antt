use Rattle.stage_core.proofs.OnOks.{on_ok_two}
use Rattle.stage_switch.proofs.Handling.{valve_started, valve_begins, valve_start_keeps}
use Rattle.stage_switch.proofs.handlers.ValveStage.start.Goals as goal

pub returns-clause-starts : goal.returns-clause-starts
returns-clause-starts c = on_ok_two _ c.start.ensures.ports c.start.ensures.gives (λ o t. valve_started _ _ _ o t)

pub returns-clause-grows : goal.returns-clause-grows
returns-clause-grows c = valve_begins _ _ _ _ c.requires.meets c.start.ensures.gives

pub returns-clause-kept : goal.returns-clause-kept
returns-clause-kept c = valve_start_keeps _ _ _ _ _ c.requires.meets c.start.ensures.gives c.start.ensures.refused
