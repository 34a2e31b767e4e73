use Rattle.std.proofs.Common.{◌≡◌, ◌++◌, drop}
use Rattle.materializer.specs.Choices.{pick_names}
use Rattle.materializer.proofs.names.picks_of.Given as goal

-- with those of the nodes that are left they are all
abbrev pub invariant-loop-node : goal.invariant-loop-node
invariant-loop-node l = l.names.items ++ pick_names (drop l.node-index l.nodes) ≡ pick_names l.nodes
