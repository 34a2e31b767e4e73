use Rattle.std.proofs.Common.{drop}
use Rattle.workbench_top.proofs.Looking.{Looked}
use Rattle.workbench_top.proofs.files.look_for_all.Given as goal

abbrev pub invariant-loop-node : goal.invariant-loop-node
invariant-loop-node g l = Looked (g.F.Folder.state l.initial.folder) (g.F.Folder.state l.folder) l.nodes (drop l.node-index l.nodes) l.all l.initial.out.items l.out.items
