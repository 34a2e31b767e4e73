-- The loop of `open::open_outputs`.
use Rattle.std.proofs.Common.{◌≡◌, ◌+◌, ◌≤◌, [], map, ◌++◌, length, vec_len, vec_capacity}
use Rattle.std.specs.Vec.Iter.{into_iter_items, into_iter_len}
use Rattle.stream_io.specs.Opening.{OpensAll}
use Rattle.stream_io.proofs.open.open_outputs.Given as goal

-- the names that came are those of the open drains, and there is room for the rest
abbrev pub invariant-loop-name : goal.invariant-loop-name
invariant-loop-name g l =
    (goal.iterator-loop-name g).can_next l.name-iterator
    × (goal.iterator-loop-name g).is_finite l.name-iterator
    × (into_iter_len l.name-iterator ≡ length (into_iter_items l.name-iterator))
    × (l.fn.names.items ≡ l.yielded ++ into_iter_items l.name-iterator)
    × (vec_len l.drains + into_iter_len l.name-iterator ≤ vec_capacity l.drains)
    × OpensAll (g.F.Folder.state l.initial.folder) (g.F.Folder.state l.folder) [] l.yielded [] (map g.F.Out.Drain.state l.drains.items)
    × (g.F.Folder.handles l.folder ≡ g.F.Folder.handles l.initial.folder + length l.drains.items)
