-- What sources, drains and folders tell of themselves, and what each call of theirs does to it.
use Rattle.std.specs.Prelude.{◌≡◌, ◌≢◌, ℕ, ◌+◌, ◌≤◌, Bool, IsTrue, List, [], length, take, drop, Option, Some, None, IsSome}
use Rattle.stream_io.specs.Counts.{Grew}

-- what a source tells: the name of its file, its bytes where they are told, how many of them were handed out, and how many reads failed
pub record SourceState : Type 0 where
  pub name : List ℕ
  pub whole : Option (List ℕ)
  pub given : ℕ
  pub faults : ℕ

-- what a drain tells: the name of its file, the bytes that it holds where they are told, and how many writes failed
pub record DrainState : Type 0 where
  pub name : List ℕ
  pub holds : Option (List ℕ)
  pub faults : ℕ

-- what a folder tells: whether it tells its files, the bytes of each, and its counts by name
-- Choice: docs/DECISIONS.md#folder-is-one-record
pub record FolderState : Type 0 where
  pub tells : Bool
  pub file : List ℕ → Option (List ℕ)
  pub refusals : List ℕ → ℕ
  pub rfaults : List ℕ → ℕ
  pub wfaults : List ℕ → ℕ
  pub read : List ℕ → ℕ

-- the bytes of the whole from a place on begin with this piece
pub record StartsWithPiece (whole : List ℕ) (from : ℕ) (piece : List ℕ) : Type 0 where
  pub within : from + length piece ≤ length whole
  pub bytes : take (length piece) (drop from whole) ≡ piece

-- no file is changed, where the folder tells its files; and it tells them as before
pub record SameFiles (old new : FolderState) : Type 0 where
  pub telling : new.tells ≡ old.tells
  pub files : IsTrue old.tells → (n : List ℕ) → new.file n ≡ old.file n

-- no count but that of refusals rises
pub record SameFaults (old new : FolderState) : Type 0 where
  pub rfaults : (n : List ℕ) → new.rfaults n ≡ old.rfaults n
  pub wfaults : (n : List ℕ) → new.wfaults n ≡ old.wfaults n
  pub read : (n : List ℕ) → new.read n ≡ old.read n

-- no count of refusals rises
abbrev pub SameRefusals : FolderState → FolderState → Type 0
SameRefusals old new = (n : List ℕ) → new.refusals n ≡ old.refusals n

-- of the counts of refusals only that of one name may rise
pub record RefusesName (old new : FolderState) (name : List ℕ) : Type 0 where
  pub stays : old.refusals name ≤ new.refusals name
  pub others : (n : List ℕ) → n ≢ name → new.refusals n ≡ old.refusals n

-- the folder tells its files, and has none of this name
abbrev pub LacksFile : FolderState → List ℕ → Type 0
LacksFile folder name = IsTrue folder.tells × (folder.file name ≡ None)

-- a source of that name's file was opened: nothing is handed out, and no read has failed
pub record OpensSource (folder : FolderState) (name : List ℕ) (h : SourceState) : Type 0 where
  pub name_is : h.name ≡ name
  pub there : IsTrue folder.tells → IsSome (folder.file name)
  pub whole : IsTrue folder.tells → h.whole ≡ folder.file name
  pub given : h.given ≡ 0
  pub faults : h.faults ≡ 0

-- a drain of that name's file was opened: it and the file are empty, no other file is changed, and no write has failed
pub record OpensDrain (old new : FolderState) (name : List ℕ) (h : DrainState) : Type 0 where
  pub name_is : h.name ≡ name
  pub holds : IsTrue new.tells → h.holds ≡ Some []
  pub faults : h.faults ≡ 0
  pub told : IsTrue new.tells → IsTrue old.tells
  pub emptied : IsTrue new.tells → new.file name ≡ Some []
  pub others : IsTrue new.tells → (n : List ℕ) → n ≢ name → new.file n ≡ old.file n

-- a source was closed: its counts are added to those of its name, and no other count changes
pub record ClosesSource (old new : FolderState) (h : SourceState) : Type 0 where
  pub rfaults : Grew (old.rfaults h.name) h.faults (new.rfaults h.name)
  pub read : Grew (old.read h.name) h.given (new.read h.name)
  pub other_rfaults : (n : List ℕ) → n ≢ h.name → new.rfaults n ≡ old.rfaults n
  pub other_read : (n : List ℕ) → n ≢ h.name → new.read n ≡ old.read n
  pub wfaults : (n : List ℕ) → new.wfaults n ≡ old.wfaults n
  pub refusals : SameRefusals old new

-- a drain was closed: its count is added to that of its name, and the file of its name is what the drain held; nothing else changes
pub record ClosesDrain (old new : FolderState) (h : DrainState) : Type 0 where
  pub wfaults : Grew (old.wfaults h.name) h.faults (new.wfaults h.name)
  pub other_wfaults : (n : List ℕ) → n ≢ h.name → new.wfaults n ≡ old.wfaults n
  pub rfaults : (n : List ℕ) → new.rfaults n ≡ old.rfaults n
  pub read : (n : List ℕ) → new.read n ≡ old.read n
  pub refusals : SameRefusals old new
  pub told : IsTrue new.tells → IsTrue old.tells
  pub file : IsTrue new.tells → new.file h.name ≡ h.holds
  pub others : IsTrue new.tells → (n : List ℕ) → n ≢ h.name → new.file n ≡ old.file n
