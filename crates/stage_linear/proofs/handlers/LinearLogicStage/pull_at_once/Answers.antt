-- The goals of `handlers::LinearLogicStage::pull_at_once` that the search leaves.
use Rattle.port_core.specs.Call.{pulls}
use Rattle.stage_linear.proofs.Handling.{handles_at, reacts_by}
use Rattle.stage_linear.proofs.handlers.LinearLogicStage.pull_at_once.Goals as goal

pub returns-then-holds_none-clause-asks : goal.returns-then-holds_none-clause-asks
returns-then-holds_none-clause-asks g c = λ is. reacts_by g.B.PlugBook.lists _ _ _ _ (handles_at g.B.PlugBook.lists (pulls c.args._port) _ _ _ c.requires.meets c.wait.ensures.ports c.wait.ensures.gives)
