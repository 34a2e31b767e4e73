-- What an error of a reader of lines says of the count of failed reads.
use Rattle.std.specs.Prelude.{◌≡◌, ℕ}
use Rattle.stream_io.specs.Counts.{Rose}
use Rattle.stream_io.specs.declared.line_reader.LineEnd.{LineEnd}
use Rattle.stream_io.specs.declared.line_reader.LineEnd.TheVariants.{ReadFault, LineTooLong, NoMemory}

-- a failed read raised the count, no other error did
abbrev pub CountsFault : LineEnd → ℕ → ℕ → Type 0
CountsFault ReadFault old new = Rose old new
CountsFault LineTooLong old new = new ≡ old
CountsFault NoMemory old new = new ≡ old
