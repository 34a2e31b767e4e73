-- The loop of `island::gather`.
use Rattle.interpreter.proofs.Gathering.{Gathers}
use Rattle.std.specs.Vec.Iter.{into_iter_items, into_iter_len}
use Rattle.interpreter.proofs.island.gather.Given as goal

abbrev pub invariant-loop-node : goal.invariant-loop-node
invariant-loop-node g l =
    (goal.iterator-loop-node g).can_next l.node-iterator
    × (goal.iterator-loop-node g).is_finite l.node-iterator
    × Gathers l.fn.nodes.items l.fn.places l.initial.end (into_iter_items l.node-iterator) (into_iter_len l.node-iterator) l.place l.end
