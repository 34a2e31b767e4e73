use Rattle.std.proofs.Common.{Bool, ◌+◌, Ok, ap, sym, subst, drop}
use Rattle.workbench_top.proofs.Looking.{Looked, opened_more, missing_more}
use Rattle.workbench_top.proofs.files.look_for_all.Goals.{then-not-branch, else-not-branch}
use Rattle.workbench_top.proofs.files.look_for_all.Goals as goal

pub loop-node-preserved : goal.loop-node-preserved
loop-node-preserved g c =
    let e = c.in_ok-look_for.ensures in
    let known : Bool → Type 0 = λ a. Looked (g.F.Folder.state c.args.folder.now) (g.F.Folder.state c.look_for.new.folder) c.args.nodes.now (drop (c.loop-node.node-index + 1) c.args.nodes.now) a c.args.out.now.items c.look_for.new.out.items in
    elim c.if-not-branch.branch [
      | then-not-branch w ↦ subst known (sym w.all-is) (missing_more _ _ _ c.args.nodes.now c.loop-node.node-index c.node-item.result c.loop-node.all _ _ _ c.loop-node-test.true c.node-item.is c.loop-node.invariant (e.missing (ap Ok w.if-not-branch.true)) e.rises e.files)
      | else-not-branch w ↦ subst known (sym w.all-is) (opened_more _ _ _ c.args.nodes.now c.loop-node.node-index c.node-item.result c.loop-node.all _ _ _ c.loop-node-test.true c.node-item.is c.loop-node.invariant (e.there (ap Ok w.if-not-branch.false)) (e.refusals (ap Ok w.if-not-branch.false)) (e.told (ap Ok w.if-not-branch.false)) e.files)
    ]
