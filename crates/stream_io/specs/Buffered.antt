-- The buffer of a reader of lines.
use Rattle.std.specs.Prelude.{◌≢◌, ℕ, ◌+◌, ◌<◌, ◌≤◌, List, length, slice_index}
use Rattle.stream_io.specs.Reading.{largest_piece}
use Rattle.elem_core.specs.Line.{longest_line}
use Rattle.elem_core.specs.Bytes.{line_feed}

-- the kept bytes stand in the buffer from `start` to `end`; no LF stands before `scanned`, and no more than one piece behind it
pub record IsBuffered (bytes : List ℕ) (start scanned end : ℕ) : Type 0 where
  pub begins : start ≤ scanned
  pub within : scanned ≤ end
  pub fits : end ≤ length bytes
  pub no_end : (k : ℕ) → start ≤ k → k < scanned → slice_index bytes k ≢ line_feed
  pub few : end ≤ scanned + largest_piece
  pub bound : end ≤ start + (longest_line + largest_piece)
