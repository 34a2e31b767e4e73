-- The loop of `close::close_outputs`.
use Rattle.std.proofs.Common.{◌≡◌, ◌-◌, [], map, ◌++◌, length}
use Rattle.std.specs.Vec.Iter.{into_iter_items, into_iter_len}
use Rattle.stream_io.specs.Closing.{ClosesAll}
use Rattle.stream_io.proofs.close.close_outputs.Given as goal

abbrev pub invariant-loop-drain : goal.invariant-loop-drain
invariant-loop-drain g l =
    (goal.iterator-loop-drain g).can_next l.drain-iterator
    × (goal.iterator-loop-drain g).is_finite l.drain-iterator
    × (into_iter_len l.drain-iterator ≡ length (into_iter_items l.drain-iterator))
    × (l.fn.outputs.items ≡ l.yielded ++ into_iter_items l.drain-iterator)
    × ClosesAll (g.F.Folder.state l.initial.folder) (g.F.Folder.state l.folder) [] (map g.F.Out.Drain.state l.yielded)
    × (g.F.Folder.handles l.folder ≡ g.F.Folder.handles l.initial.folder - length l.yielded)
