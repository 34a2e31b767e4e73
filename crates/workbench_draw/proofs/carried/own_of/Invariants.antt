use Rattle.std.proofs.Common.{◌≡◌, ◌++◌, drop}
use Rattle.workbench_draw.specs.Carried.{own_elements}
use Rattle.workbench_draw.proofs.carried.own_of.Given as goal

abbrev pub invariant-loop-node : goal.invariant-loop-node
invariant-loop-node l = l.numbers.items ++ own_elements (drop l.node-index l.nodes) l.rest ≡ own_elements l.nodes l.fn.counts
