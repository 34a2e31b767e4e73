-- The loop of `make::make_all`.
use Rattle.std.proofs.Common.{◌≡◌, ◌+◌, ◌≤◌, length, vec_len, vec_capacity}
use Rattle.std.specs.Vec.Iter.{into_iter_items, into_iter_len}
use Rattle.island_plans.proofs.Making.{Behind, Going, EachIs}
use Rattle.island_plans.proofs.Bodies.{MadeAt, PeersAt}
use Rattle.island_plans.proofs.body_make.make_all.Given as goal

-- the bodies of the islands so far
abbrev pub invariant-loop-island : goal.invariant-loop-island
invariant-loop-island g l =
    (goal.iterator-loop-island g).can_next l.island-iterator
    × (goal.iterator-loop-island g).is_finite l.island-iterator
    × (into_iter_len l.island-iterator ≡ length (into_iter_items l.island-iterator))
    × (vec_len l.bodies + into_iter_len l.island-iterator ≤ vec_capacity l.bodies)
    × (into_iter_len l.takers ≡ length (into_iter_items l.takers))
    × (into_iter_len l.senders ≡ length (into_iter_items l.senders))
    × (into_iter_len l.blanks ≡ length (into_iter_items l.blanks))
    × Behind l.fn.ins.items (length l.bodies.items) (into_iter_items l.takers)
    × Behind l.fn.outs.items (length l.bodies.items) (into_iter_items l.senders)
    × Behind l.fn.tables.items (length l.bodies.items) (into_iter_items l.blanks)
    × Going (MadeAt g.S.Source.state g.D.Drain.state g.B.PlugBook.lists l.fn.islands.items l.fn.ins.items l.fn.outs.items) l.fn.islands.items (into_iter_items l.island-iterator) l.bodies.items
    × (into_iter_len l.others ≡ length (into_iter_items l.others))
    × Behind l.fn.peers.items (length l.bodies.items) (into_iter_items l.others)
    × EachIs (PeersAt l.fn.peers.items) l.bodies.items
