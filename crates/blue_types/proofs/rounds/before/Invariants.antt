use Rattle.std.proofs.Common.{◌≡◌, map, take}
use Rattle.blue_names.specs.StageTypes.{source_type}
use Rattle.blue_types.proofs.rounds.before.Given as goal

abbrev pub invariant-loop-node : goal.invariant-loop-node
invariant-loop-node l = l.types.items ≡ map (λ n. source_type n.kind) (take l.node-index l.nodes)
