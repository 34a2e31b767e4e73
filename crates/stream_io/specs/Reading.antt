-- What a reader of lines shows, what is left to draw from it, and what each call draws.
use Rattle.std.specs.Prelude.{◌≡◌, ◌≢◌, ℕ, ◌+◌, ◌<◌, ◌≤◌, List, [], ◌∷◌, ◌++◌, length, take, drop, ◌⊎◌, unwrap_or, IsSome, slice_index}
use Rattle.std.specs.List.{All, Contains}
use Rattle.elem_core.specs.Line.{longest_line}
use Rattle.elem_core.specs.Bytes.{line_feed}
use Rattle.stream_io.specs.State.{SourceState}

-- a reader: its source, and the bytes that it read and did not give out
pub record ReaderState (S : Type 0) : Type 0 where
  pub source : S
  pub kept : List ℕ

-- the most bytes that a source hands out at once to a reader of lines
abbrev pub largest_piece : ℕ
largest_piece = 4096

-- no byte is LF
abbrev pub NoEnd : List ℕ → Type 0
NoEnd bs = All (λ b. b ≢ line_feed) bs

-- some line ends within these bytes
abbrev pub HoldsEnd : List ℕ → Type 0
HoldsEnd bs = Contains bs line_feed

-- the bytes that are left to draw where the source tells its bytes: those kept, and behind them those that it did not hand out
abbrev pub rest : SourceState → List ℕ → List ℕ
rest s kept = kept ++ drop s.given (unwrap_or s.whole [])

-- a read put the next n bytes of the whole behind the kept ones
abbrev pub ReadsOn : List ℕ → ℕ → ℕ → List ℕ → List ℕ → Type 0
ReadsOn whole from n old new = (from + n ≤ length whole) × (new ≡ old ++ take n (drop from whole))

-- what reads of one call leave: what they handed out is kept, and nothing that was left to draw is lost
pub record Fetched (old : SourceState) (kept : List ℕ) (new : SourceState) (kept' : List ℕ) : Type 0 where
  pub name : new.name ≡ old.name
  pub whole : new.whole ≡ old.whole
  pub given : old.given ≤ new.given
  pub count : length kept' + old.given ≡ length kept + new.given
  pub left : IsSome old.whole → rest new kept' ≡ rest old kept

-- the first line ends at this place
pub record LineEndsAt (kept : List ℕ) (at : ℕ) : Type 0 where
  pub within : at < length kept
  pub short : at ≤ longest_line
  pub before : NoEnd (take at kept)
  pub found : slice_index kept at ≡ line_feed
  pub near : length kept ≤ at + largest_piece

-- the kept bytes are a last line without LF, or nothing
pub record AtEnd (s : SourceState) (kept : List ℕ) : Type 0 where
  pub no_end : NoEnd kept
  pub short : length kept ≤ longest_line
  pub left : IsSome s.whole → rest s kept ≡ kept

-- more bytes than a line may have stand before the first LF
abbrev pub TooLong : List ℕ → Type 0
TooLong kept = (n : ℕ) × (longest_line < n) × (n ≤ length kept) × NoEnd (take n kept)

-- the line stood first in the old rest: with its LF, or as a last line that is not empty
abbrev pub Draws : List ℕ → List ℕ → List ℕ → Type 0
Draws old line new = (old ≡ line ++ line_feed ∷ new) ⊎ ((old ≡ line) × (line ≢ []) × (new ≡ []))

-- the first of these lines is longer than a line may be
abbrev pub FirstTooLong : List (List ℕ) → Type 0
FirstTooLong [] = ⊥
FirstTooLong (line ∷ later) = longest_line < length line

-- nothing was left to draw
pub record ReadToEnd (old : SourceState) (kept : List ℕ) (new : SourceState) (kept' : List ℕ) : Type 0 where
  pub nothing_kept : kept ≡ []
  pub nothing_keeps : kept' ≡ []
  pub nothing_left : IsSome old.whole → rest old kept ≡ []
  pub nothing_leaves : IsSome old.whole → rest new kept' ≡ []
