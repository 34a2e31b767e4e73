use Rattle.stage_core.proofs.OnOks.{on_ok_two}
use Rattle.stage_state.proofs.Handling.{started, fresh_new, fresh_met, grew_at_start}
use Rattle.stage_state.proofs.handlers.StateLogicStage.start.Goals as goal

pub start-requires-clause-new : goal.start-requires-clause-new
start-requires-clause-new c = fresh_new _ c.requires.meets

pub start-requires-clause-meets : goal.start-requires-clause-meets
start-requires-clause-meets c = fresh_met _ c.requires.meets

pub returns-clause-starts : goal.returns-clause-starts
returns-clause-starts c = on_ok_two _ c.start.ensures.ports c.start.ensures.gives (λ o t. started _ _ _ o t)

pub returns-clause-grows : goal.returns-clause-grows
returns-clause-grows c = grew_at_start _ _ _ _ c.requires.meets c.start.ensures.gives
