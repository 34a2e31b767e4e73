use Rattle.stage_core.proofs.OnOks.{on_ok_two}
use Rattle.stage_linear.proofs.Handling.{started}
use Rattle.stage_linear.proofs.handlers.LinearLogicStage.start.Goals as goal

pub returns-clause-starts : goal.returns-clause-starts
returns-clause-starts g c = on_ok_two _ c.start.ensures.ports c.start.ensures.gives (λ o t. started g.B.PlugBook.lists _ _ _ o t)
