use Rattle.std.proofs.Common.{ap, ◌∙◌}
use Rattle.nodes.proofs.Enters.{starts_entering}
use Rattle.nodes.proofs.Leaves.{starts_leaving}
use Rattle.nodes.proofs.Acting.{on_ok_two}
use Rattle.nodes.proofs.Dispatching.{entering_starts, leaving_starts}
use Rattle.nodes.proofs.node.IslandNodeStage.start.Goals as goal

pub returns-in-Entering-clause-starts : goal.returns-in-Entering-clause-starts
returns-in-Entering-clause-starts g c =
    let e = c.start-in-Entering.ensures in
    rw c.in-Entering.is (entering_starts _ _ _ g.S.Source.state g.D.Drain.state g.B.PlugBook.lists _ _ _ _ (starts_entering c.start-in-Entering.result _ _ _ e.same.0 (ap (λ a. a.items) e.same.1 ∙ c.requires.empty)))

pub returns-in-Leaving-clause-starts : goal.returns-in-Leaving-clause-starts
returns-in-Leaving-clause-starts g c =
    let e = c.start-in-Leaving.ensures in
    rw c.in-Leaving.is (leaving_starts _ _ _ g.S.Source.state g.D.Drain.state g.B.PlugBook.lists _ _ _ _ (starts_leaving c.start-in-Leaving.result _ _ _ e.same.0 (ap (λ a. a.items) e.same.1 ∙ c.requires.empty)))

pub returns-in-Writing-clause-pulls : goal.returns-in-Writing-clause-pulls
returns-in-Writing-clause-pulls g c =
    let e = c.start-in-Writing.ensures.asks in
    rw c.in-Writing.is (on_ok_two c.start-in-Writing.result e e (λ a b v may held p. a p))
