-- The goals of `island::Island::execute` that the search leaves.
use Rattle.interpreter.proofs.Running.{still_in}
use Rattle.interpreter.proofs.island.Island.execute.Goals as goal

pub returns-clause-still : goal.returns-clause-still
returns-clause-still g c = still_in _ _ _ c.self.view_is c.in_ok-used.ensures.still
