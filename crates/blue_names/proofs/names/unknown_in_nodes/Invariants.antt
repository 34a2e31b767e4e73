use Rattle.std.proofs.Common.{◌≡◌, ℕ, ◌+◌, List, drop, length}
use Rattle.blue_names.specs.First.{first_from, when}
use Rattle.blue_names.specs.Table.{Numbers}
use Rattle.blue_names.specs.Names.{unknown_at, unknown_end, unknown_plug_at, plug_of}
use Rattle.blue_names.proofs.names.unknown_in_nodes.Given as goal

abbrev pub invariant-loop-node : goal.invariant-loop-node
invariant-loop-node l = (ss cs : List (List ℕ)) → Numbers l.switches ss → Numbers l.chains cs
    → first_from (λ _ n. unknown_at ss cs n.kind) 0 l.nodes ≡ first_from (λ _ n. unknown_at ss cs n.kind) l.node-index (drop l.node-index l.nodes)
