-- What the sources of a run drew of their files, and what its stages chose.
use Rattle.std.specs.Prelude.{◌≡◌, ℕ, ◌+◌, ◌≤◌, ◌⊎◌, Bool, true, false, IsTrue, List, ◌++◌, length, slice_get, Some}
use Rattle.elem_core.specs.Line.{longest_line}
use Rattle.elem_core.specs.Text.{lines}
use Rattle.stream_model.specs.declared.blueprint.Node.{Node}
use Rattle.stream_model.specs.declared.kind.Kind.TheVariants.{Lines}
use Rattle.stream_model.specs.Node.{World}
use Rattle.stream_io.specs.Counts.{Rose, Grew}
use Rattle.stream_io.specs.State.{FolderState}
use Rattle.stream_io.specs.Reading.{FirstTooLong, largest_piece}
use Rattle.nodes.specs.Drawing.{ended_lines}
use Rattle.interpreter.specs.Picks.{Pick}
use Rattle.run_blueprint.specs.Choosing.{HasPicks}
use Rattle.stream_model.specs.Linear.{Book}
use Rattle.stream_model.specs.Listed.{tells_none}
use Rattle.stream_model.specs.Outlook.{Outlook}

-- of the source that is node k: the bytes of its file, how many of them were read, and whether a read failed; and the moves of
-- the stages that choose; and what each output of a custom stage gave
-- Choice: docs/DECISIONS.md#read-by-node
pub record Drawn : Type 0 where
  pub bytes : ℕ → List ℕ
  pub given : ℕ → ℕ
  pub faulted : ℕ → Bool
  pub picks : List Pick
  pub given_by : ℕ → ℕ → Outlook

-- node k is a source of the lines of that file
pub record IsSource (nodes : List Node) (k : ℕ) (file : List ℕ) : Type 0 where
  pub node : Node
  pub at : slice_get nodes k ≡ Some node
  pub kind_is : node.kind ≡ Lines file

-- the file was there with these bytes, so many of them were read, and the count of failed reads rose only where a read failed
pub record WasRead (old new : FolderState) (file bytes : List ℕ) (given : ℕ) (faulted : Bool) : Type 0 where
  pub there : old.file file ≡ Some bytes
  pub read : Grew (old.read file) given (new.read file)
  pub rose : IsTrue faulted → Rose (old.rfaults file) (new.rfaults file)
  pub calm : faulted ≡ false → Grew (old.rfaults file) 0 (new.rfaults file)

-- the same of the file of every source
-- Choice: docs/DECISIONS.md#any-such-world
abbrev pub WereRead : FolderState → FolderState → List Node → Drawn → Type 0
WereRead old new nodes d = (k : ℕ) (file : List ℕ) → IsSource nodes k file → WasRead old new file (d.bytes k) (d.given k) (d.faulted k)

-- The world has the plugs and the custom stages as this book lists them, what each custom stage gave that tells no list is as it was, it
-- has each input file as it was read, and of each stage that chose the moves that it made. Of a run whose stages have no choice and whose
-- custom stages all tell a list it need have the book and the files alone.
-- Choice: docs/DECISIONS.md#world-has-the-book
pub record IsWorldOf (book : Book) (nodes : List Node) (d : Drawn) (w : World) : Type 0 where
  pub book_is : w.book ≡ book
  pub files : (k : ℕ) (file : List ℕ) → IsSource nodes k file → w.file file ≡ record { bytes = d.bytes k; read = d.given k; faulted = d.faulted k }
  pub moves : HasPicks d.picks w
  pub gave : (k : ℕ) (n : Node) (p : ℕ) → slice_get nodes k ≡ Some n → tells_none book n.kind ≡ true → w.given k p ≡ d.given_by k p

-- So many lines were drawn, the first of the file, and no more was read than those and one piece; or than one longest line and
-- its LF besides, where a read failed or the next line is too long.
pub record DrawsFirst (bytes : List ℕ) (given : ℕ) (faulted : Bool) (sent : ℕ) : Type 0 where
  pub drawn : List (List ℕ)
  pub later : List (List ℕ)
  pub lines_are : lines bytes ≡ drawn ++ later
  pub sent_is : sent ≡ length drawn
  pub ahead : (given ≤ length (ended_lines drawn) + largest_piece) ⊎ ((IsTrue faulted ⊎ FirstTooLong later)
      × (given ≤ length (ended_lines drawn) + (largest_piece + (longest_line + 1))))
