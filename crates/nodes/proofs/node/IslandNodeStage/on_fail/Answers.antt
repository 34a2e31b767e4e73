use Rattle.std.proofs.Common.{ap, ◌∙◌}
use Rattle.elem_core.specs.declared.item.Item.TheVariants as item
use Rattle.nodes.proofs.Leaves.{leaves_got}
use Rattle.nodes.proofs.Acting.{on_ok_two}
use Rattle.nodes.proofs.Dispatching.{writing_handles, leaving_handles}
use Rattle.nodes.proofs.node.IslandNodeStage.on_fail.Goals as goal

pub returns-in-Writing-clause-handles : goal.returns-in-Writing-clause-handles
returns-in-Writing-clause-handles g c =
    rw c.in-Writing.is (writing_handles _ _ _ g.S.Source.state g.D.Drain.state g.B.PlugBook.lists _ _ _ _ _ _ (rw c.in-Writing.is at c.requires.meets) c.on_fail-in-Writing.ensures.handles)

pub returns-in-Leaving-clause-handles : goal.returns-in-Leaving-clause-handles
returns-in-Leaving-clause-handles g c =
    let e = c.on_fail-in-Leaving.ensures in
    rw c.in-Leaving.is (leaving_handles _ _ _ g.S.Source.state g.D.Drain.state g.B.PlugBook.lists _ _ _ _ _ (leaves_got c.on_fail-in-Leaving.result c.args.port (item.Failed c.args.cause) _ _ _ e.waits (ap (λ a. a.items) e.nothing ∙ c.requires.empty)))

pub returns-in-Writing-clause-pulls : goal.returns-in-Writing-clause-pulls
returns-in-Writing-clause-pulls g c =
    let e = c.on_fail-in-Writing.ensures.asks in
    rw c.in-Writing.is (on_ok_two c.on_fail-in-Writing.result e e (λ a b v may held p. a p))
