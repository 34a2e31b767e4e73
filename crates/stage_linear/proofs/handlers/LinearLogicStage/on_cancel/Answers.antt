use Rattle.port_core.specs.Call.{cancels}
use Rattle.stage_linear.proofs.Handling.{handles}
use Rattle.stage_linear.proofs.handlers.LinearLogicStage.on_cancel.Goals as goal

pub returns-clause-handles : goal.returns-clause-handles
returns-clause-handles g c = handles g.B.PlugBook.lists (cancels c.args._port) _ _ _ _ c.requires.meets c.on_cancel.ensures.ports c.on_cancel.ensures.gives
