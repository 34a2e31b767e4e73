-- The loop of `close::close_inputs`.
use Rattle.std.proofs.Common.{◌≡◌, ◌-◌, [], map, ◌++◌, length}
use Rattle.std.specs.Vec.Iter.{into_iter_items, into_iter_len}
use Rattle.stream_io.specs.Closing.{ClosesAll}
use Rattle.stream_io.proofs.close.close_inputs.Given as goal

abbrev pub invariant-loop-source : goal.invariant-loop-source
invariant-loop-source g l =
    (goal.iterator-loop-source g).can_next l.source-iterator
    × (goal.iterator-loop-source g).is_finite l.source-iterator
    × (into_iter_len l.source-iterator ≡ length (into_iter_items l.source-iterator))
    × (l.fn.inputs.items ≡ l.yielded ++ into_iter_items l.source-iterator)
    × ClosesAll (g.F.Folder.state l.initial.folder) (g.F.Folder.state l.folder) (map g.F.Inp.Source.state l.yielded) []
    × (g.F.Folder.handles l.folder ≡ g.F.Folder.handles l.initial.folder - length l.yielded)
