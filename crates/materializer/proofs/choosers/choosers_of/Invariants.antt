-- The loop of `choosers::choosers_of`.
use Rattle.std.proofs.Common.{◌≡◌, ◌++◌, drop}
use Rattle.materializer.specs.Choosers.{choosers_in}
use Rattle.materializer.proofs.choosers.choosers_of.Given as goal

-- with those of the nodes that are left they are all
abbrev pub invariant-loop-node : goal.invariant-loop-node
invariant-loop-node l = l.choosers.items ++ choosers_in (drop l.node-index l.nodes) ≡ choosers_in l.nodes
