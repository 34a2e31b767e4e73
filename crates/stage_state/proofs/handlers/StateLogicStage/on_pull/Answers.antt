use Rattle.port_core.specs.Call.{pulls}
use Rattle.stage_state.proofs.Handling.{handles, met_first, grew_at}
use Rattle.stage_state.proofs.handlers.StateLogicStage.on_pull.Goals as goal

pub on_pull-requires-clause-meets : goal.on_pull-requires-clause-meets
on_pull-requires-clause-meets c = met_first (pulls c.args._port) _ c.requires.meets

pub returns-clause-handles : goal.returns-clause-handles
returns-clause-handles c = handles (pulls c.args._port) _ _ _ _ c.requires.meets c.on_pull.ensures.ports c.on_pull.ensures.gives

pub returns-clause-grows : goal.returns-clause-grows
returns-clause-grows c = grew_at (pulls c.args._port) _ _ _ _ (λ s. cc) c.requires.meets c.on_pull.ensures.gives
