use Rattle.port_core.specs.Call.{arrives}
use Rattle.elem_core.specs.declared.item.Item.TheVariants as item
use Rattle.stage_state.proofs.Handling.{handles, met_first, grew_at}
use Rattle.stage_state.proofs.handlers.StateLogicStage.on_finish.Goals as goal

pub on_finish-requires-clause-meets : goal.on_finish-requires-clause-meets
on_finish-requires-clause-meets c = met_first (arrives c.args._port item.Ended) _ c.requires.meets

pub returns-clause-handles : goal.returns-clause-handles
returns-clause-handles c = handles (arrives c.args._port item.Ended) _ _ _ _ c.requires.meets c.on_finish.ensures.ports c.on_finish.ensures.gives

pub returns-clause-grows : goal.returns-clause-grows
returns-clause-grows c = grew_at (arrives c.args._port item.Ended) _ _ _ _ (λ s. cc) c.requires.meets c.on_finish.ensures.gives
