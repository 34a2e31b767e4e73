-- The loop of `answer::told_ends`.
use Rattle.std.proofs.Common.{◌≡◌, ◌+◌, ◌≤◌, ◌++◌, drop, length, vec_len, vec_capacity}
use Rattle.std.specs.Vec.Iter.{into_iter_items, into_iter_len}
use Rattle.stream_command.specs.AfterRun.{sink_ends}
use Rattle.stream_command.proofs.answer.told_ends.Given as goal

-- the ends that were told, and those of the names that are left, are all; there is room for the rest
abbrev pub invariant-loop-name : goal.invariant-loop-name
invariant-loop-name l =
    (goal.iterator-loop-name).can_next l.name-iterator
    × (goal.iterator-loop-name).is_finite l.name-iterator
    × (into_iter_len l.name-iterator ≡ length (into_iter_items l.name-iterator))
    × (vec_len l.ends + into_iter_len l.name-iterator ≤ vec_capacity l.ends)
    × (vec_len l.ends + into_iter_len l.name-iterator ≡ length l.fn.stands)
    × (sink_ends l.fn.names.items l.fn.stands ≡ l.ends.items ++ sink_ends (into_iter_items l.name-iterator) (drop (vec_len l.ends) l.fn.stands))
