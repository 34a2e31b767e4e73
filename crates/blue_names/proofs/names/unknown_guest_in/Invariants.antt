use Rattle.std.proofs.Common.{◌≡◌, ℕ, ◌+◌, List, drop, length}
use Rattle.blue_names.specs.First.{first_from, when}
use Rattle.blue_names.specs.Table.{Numbers}
use Rattle.blue_names.specs.Names.{unknown_guest_at}
use Rattle.blue_names.proofs.names.unknown_guest_in.Given as goal

abbrev pub invariant-loop-node : goal.invariant-loop-node
invariant-loop-node l = (ps cs : List (List ℕ)) → Numbers l.plugs ps → Numbers l.customs cs
    → first_from (λ _ n. unknown_guest_at ps cs n.kind) 0 l.nodes ≡ first_from (λ _ n. unknown_guest_at ps cs n.kind) l.node-index (drop l.node-index l.nodes)
