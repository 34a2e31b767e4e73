-- How many elements were sent on the wire of a sink of lines, also where it is a lane.
use Rattle.std.specs.Prelude.{◌≡◌, ℕ, ◌+◌, ◌≤◌, Option, None, Some}
use Rattle.stream_model.specs.declared.outcome.EndState.{EndState}
use Rattle.stream_model.specs.declared.outcome.EndState.TheVariants.{Ended, Failed, Unended, WriteFault}

-- So many elements were sent on the wire of a sink of lines that wrote `count` lines: as many where its input's end came, and one more
-- at most while it waits; where a write failed just one more. Of a lane it is counted what was pushed into it: as many where a normal
-- end came; and else as on any wire, and so many more at most as the lane has places, also where its sink puts lines together.
abbrev pub SentOn : Option ℕ → EndState → ℕ → ℕ → Type 0
SentOn None Ended sent count = sent ≡ count
SentOn None (Failed c) sent count = sent ≡ count
SentOn None Unended sent count = (count ≤ sent) × (sent ≤ count + 1)
SentOn None WriteFault sent count = sent ≡ count + 1
SentOn (Some s) Ended sent count = sent ≡ count
SentOn (Some s) (Failed c) sent count = (count ≤ sent) × (sent ≤ count + s)
SentOn (Some s) Unended sent count = (count ≤ sent) × (sent ≤ count + (s + 1))
SentOn (Some s) WriteFault sent count = (count + 1 ≤ sent) × (sent ≤ count + (s + 1))
