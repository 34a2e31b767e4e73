use Rattle.std.proofs.Common.{◌≡◌, ◌+◌, ◌≤◌, drop}
use Rattle.workbench_draw.specs.Carried.{source_count}
use Rattle.workbench_draw.proofs.carried.source_count.Given as goal

abbrev pub invariant-loop-node : goal.invariant-loop-node
invariant-loop-node l = (l.count + source_count (drop l.node-index l.nodes) ≡ source_count l.nodes) × (l.count ≤ l.node-index)
