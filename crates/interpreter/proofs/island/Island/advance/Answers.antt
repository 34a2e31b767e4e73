-- The goals of `island::Island::advance` that the search leaves.
use Rattle.fused_net.proofs.Keeping.{on_err}
use Rattle.interpreter.proofs.Running.{still_in, untouched_in, breaks_in}
use Rattle.interpreter.proofs.island.Island.advance.Goals as goal

pub returns-clause-still : goal.returns-clause-still
returns-clause-still g c = still_in _ _ _ c.self.view_is c.in_ok-advance.ensures.still

pub returns-clause-untouched : goal.returns-clause-untouched
returns-clause-untouched g c = untouched_in _ _ _ _ c.self.view_is c.in_ok-advance.ensures.untouched

pub returns-in_err-advance-clause-breaks : goal.returns-in_err-advance-clause-breaks
returns-in_err-advance-clause-breaks g c = on_err _ (breaks_in g.S.Source.state g.D.Drain.state _ _ _ _ c.self.view_is c.in_err-advance.ensures.breaks)
