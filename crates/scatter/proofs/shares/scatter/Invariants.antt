-- The loop of `shares::scatter`.
use Rattle.std.proofs.Common.{◌≡◌, length, vec_len}
use Rattle.std.specs.Vec.Iter.{into_iter_items, into_iter_len}
use Rattle.scatter.proofs.Putting.{Sharing}
use Rattle.scatter.proofs.shares.scatter.Given as goal

-- what is left to share out makes, behind what has been shared out, the shares of all
abbrev pub invariant-loop-item : goal.invariant-loop-item
invariant-loop-item g l =
    (goal.iterator-loop-item g).can_next l.item-iterator
    × (goal.iterator-loop-item g).is_finite l.item-iterator
    × (into_iter_len l.item-iterator ≡ length (into_iter_items l.item-iterator))
    × (vec_len l.lists ≡ vec_len l.fn.lists)
    × Sharing l.homes l.fn.items.items l.i (into_iter_items l.item-iterator) l.lists.items
