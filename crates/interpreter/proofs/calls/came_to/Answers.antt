use Rattle.interpreter.proofs.Acting.{came_at}
use Rattle.interpreter.proofs.calls.came_to.Goals as goal

pub returns : goal.returns
returns g c = came_at g.S.Source.state g.D.Drain.state g.B.PlugBook.lists _ _ c.requires.laws c.requires.within c.requires.stage
