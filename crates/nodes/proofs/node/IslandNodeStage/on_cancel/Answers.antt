use Rattle.nodes.proofs.Dispatching.{reading_cancelled}
use Rattle.nodes.proofs.node.IslandNodeStage.on_cancel.Goals as goal

pub returns-in-Reading-clause-handles : goal.returns-in-Reading-clause-handles
returns-in-Reading-clause-handles g c =
    rw c.in-Reading.is (reading_cancelled _ _ _ g.S.Source.state g.D.Drain.state g.B.PlugBook.lists _ _ _ _ _ (rw c.in-Reading.is at c.requires.meets) c.on_cancel.ensures.handles)
