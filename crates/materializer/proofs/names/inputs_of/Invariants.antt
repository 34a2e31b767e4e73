use Rattle.std.proofs.Common.{◌≡◌, ◌++◌, drop}
use Rattle.materializer.specs.Files.{inputs_of_nodes}
use Rattle.materializer.proofs.names.inputs_of.Given as goal

-- with those of the nodes that are left they are all
abbrev pub invariant-loop-node : goal.invariant-loop-node
invariant-loop-node l = l.names.items ++ inputs_of_nodes (drop l.node-index l.nodes) ≡ inputs_of_nodes l.nodes
