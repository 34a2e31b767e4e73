-- The loop of `make::finish_all`.
use Rattle.std.proofs.Common.{◌≡◌, ◌+◌, ◌≤◌, length, vec_len, vec_capacity}
use Rattle.std.specs.Vec.Iter.{into_iter_items, into_iter_len}
use Rattle.island_plans.proofs.Making.{Going}
use Rattle.island_plans.proofs.Bodies.{EndsAt}
use Rattle.island_plans.proofs.body_make.finish_all.Given as goal

-- what the bodies so far leave
abbrev pub invariant-loop-body : goal.invariant-loop-body
invariant-loop-body g l =
    (goal.iterator-loop-body g).can_next l.body-iterator
    × (goal.iterator-loop-body g).is_finite l.body-iterator
    × (into_iter_len l.body-iterator ≡ length (into_iter_items l.body-iterator))
    × (vec_len l.ends + into_iter_len l.body-iterator ≤ vec_capacity l.ends)
    × Going (EndsAt l.fn.bodies.items) l.fn.bodies.items (into_iter_items l.body-iterator) l.ends.items
