use Rattle.std.proofs.Common.{refl}
use Rattle.nodes.proofs.Makers.{sees_cancel}
use Rattle.nodes.proofs.maker.ValueSource.on_cancel.Goals as goal

pub returns-clause-handles : goal.returns-clause-handles
returns-clause-handles c = rw (← c.self.view_is) (sees_cancel _ _ _ _ _ _ _ refl c.requires.empty)
