-- The loop of `start::start_all`.
use Rattle.std.proofs.Common.{◌≡◌, ◌+◌, ◌≤◌, [], length, vec_len, vec_capacity}
use Rattle.std.specs.Vec.Iter.{into_iter_items, into_iter_len}
use Rattle.island_parts.specs.Starts.{CanAllStart}
use Rattle.island_parts.proofs.Starting.{Going, Started}
use Rattle.island_parts.proofs.start.start_all.Given as goal

-- the islands so far have started
abbrev pub invariant-loop-next : goal.invariant-loop-next
invariant-loop-next g l =
    (into_iter_len l.rest ≡ length (into_iter_items l.rest))
    × (vec_len l.started + into_iter_len l.rest ≡ vec_len l.fn.islands)
    × (vec_len l.started + into_iter_len l.rest ≤ vec_capacity l.started)
    × CanAllStart (into_iter_items l.rest)
    × Going (Started g.S.Source.state g.D.Drain.state g.B.PlugBook.lists) l.fn.islands.items [] (into_iter_items l.rest) l.started.items

abbrev pub decreases-loop-next : goal.decreases-loop-next
decreases-loop-next g l = into_iter_len l.rest
