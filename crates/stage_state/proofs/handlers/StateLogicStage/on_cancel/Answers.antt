use Rattle.port_core.specs.Call.{cancels}
use Rattle.stage_state.proofs.Handling.{handles, met_first, grew_at}
use Rattle.stage_state.proofs.handlers.StateLogicStage.on_cancel.Goals as goal

pub on_cancel-requires-clause-meets : goal.on_cancel-requires-clause-meets
on_cancel-requires-clause-meets c = met_first (cancels c.args._port) _ c.requires.meets

pub returns-clause-handles : goal.returns-clause-handles
returns-clause-handles c = handles (cancels c.args._port) _ _ _ _ c.requires.meets c.on_cancel.ensures.ports c.on_cancel.ensures.gives

pub returns-clause-grows : goal.returns-clause-grows
returns-clause-grows c = grew_at (cancels c.args._port) _ _ _ _ (λ s. cc) c.requires.meets c.on_cancel.ensures.gives
