use Rattle.std.proofs.Common.{◌≡◌, ◌++◌, map, drop}
use Rattle.blue_names.specs.Names.{guests_of_nodes}
use Rattle.blue_names.specs.Claims.{claim_of}
use Rattle.blue_names.proofs.claims.add_uses.Given as goal

abbrev pub invariant-loop-node : goal.invariant-loop-node
invariant-loop-node l = map claim_of l.claims.items ++ guests_of_nodes (drop l.node-index l.nodes) ≡ map claim_of l.fn.claims.items ++ guests_of_nodes l.nodes
