use Rattle.port_core.specs.Call.{pulls}
use Rattle.stage_linear.proofs.Handling.{handles, handles_at}
use Rattle.stage_linear.proofs.handlers.LinearLogicStage.on_pull.Goals as goal

pub returns-then-holds_none-clause-handles : goal.returns-then-holds_none-clause-handles
returns-then-holds_none-clause-handles g c = handles_at g.B.PlugBook.lists (pulls c.args._port) _ _ _ c.requires.meets c.ask.ensures.ports c.ask.ensures.gives

pub returns-clause-handles : goal.returns-clause-handles
returns-clause-handles g c = handles g.B.PlugBook.lists (pulls c.args._port) _ _ _ _ c.requires.meets c.on_pull.ensures.ports c.on_pull.ensures.gives
