-- The entries of a tally, one link after another.
use Rattle.std.specs.Prelude.{List, [], ◌∷◌}
use Rattle.stream_io.specs.declared.tally.Counts.{Counts}
use Rattle.stream_io.specs.declared.tally.TallyCell.{TallyCell}
use Rattle.stream_io.specs.declared.tally.TallyCell.TheVariants.{End, More}

-- the counts that the links of a tally hold, in order
abbrev pub entries_of : TallyCell → List Counts
entries_of End = []
entries_of (More c later) = c ∷ later.value
