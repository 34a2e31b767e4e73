-- The loop of `start::hand_all_back`.
use Rattle.std.proofs.Common.{◌≡◌, ◌+◌, ◌≤◌, length, vec_len, vec_capacity}
use Rattle.std.specs.Vec.Iter.{into_iter_items, into_iter_len}
use Rattle.island_parts.specs.Starts.{CanAllStart, GivesBack}
use Rattle.island_parts.proofs.Starting.{Going}
use Rattle.island_parts.proofs.start.hand_all_back.Given as goal

-- what the islands so far leave
abbrev pub invariant-loop-next : goal.invariant-loop-next
invariant-loop-next g l =
    (into_iter_len l.rest ≡ length (into_iter_items l.rest))
    × (vec_len l.ends + into_iter_len l.rest ≤ vec_capacity l.ends)
    × CanAllStart (into_iter_items l.rest)
    × Going (GivesBack g.S.Source.state g.D.Drain.state) (into_iter_items l.fn.islands) l.initial.ends.items (into_iter_items l.rest) l.ends.items

abbrev pub decreases-loop-next : goal.decreases-loop-next
decreases-loop-next g l = into_iter_len l.rest
