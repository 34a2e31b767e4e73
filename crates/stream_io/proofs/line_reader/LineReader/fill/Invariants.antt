-- The measure and the invariant of the loop that reads.
use Rattle.std.proofs.Common.{◌≡◌, ◌-◌, length}
use Rattle.stream_io.specs.Reading.{HoldsEnd, Fetched}
use Rattle.stream_io.proofs.line_reader.LineReader.fill.Given as goal

abbrev pub invariant-loop-at : goal.invariant-loop-at
invariant-loop-at g l =
    let state = g.S.Source.state in
    (Fetched (state l.initial.self.source) l.initial.self.kept (state l.self.source) l.self.kept)
    × (HoldsEnd l.initial.self.kept → l.self ≡ l.initial.self)
    × ((state l.self.source).faults ≡ (state l.initial.self.source).faults)

abbrev pub decreases-loop-at : goal.decreases-loop-at
decreases-loop-at g l = 65537 - length l.self.kept
