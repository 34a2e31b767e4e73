use Rattle.nodes.proofs.Dispatching.{writing_puts}
use Rattle.nodes.proofs.node.IslandNodeStage.put_off.Goals as goal

pub returns-in-Writing-clause-puts : goal.returns-in-Writing-clause-puts
returns-in-Writing-clause-puts g c = rw c.in-Writing.is (writing_puts _ _ _ g.S.Source.state g.D.Drain.state g.B.PlugBook.lists _ _ _ c.put_waiting.ensures.puts)
