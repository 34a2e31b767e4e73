use Rattle.std.proofs.Common.{◌≡◌, ◌≤◌, take}
use Rattle.nodes.specs.Sink.{line_feeds}
use Rattle.nodes.proofs.put.lines_in.Given as goal

abbrev pub invariant-loop-i : goal.invariant-loop-i
invariant-loop-i l = (l.lines ≡ line_feeds (take l.i l.bytes)) × (l.lines ≤ l.i)
