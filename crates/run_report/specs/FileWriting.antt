-- The writing of one file, from its opening to its closing.
use Rattle.std.specs.Prelude.{◌≡◌, ◌≢◌, ℕ, ◌⊎◌, IsTrue, List, Some}
use Rattle.elem_core.specs.Prefix.{IsPrefix}
use Rattle.stream_io.specs.Counts.{Rose}
use Rattle.stream_io.specs.State.{DrainState, FolderState, SameFiles}
use Rattle.stream_io.specs.Quiet.{Quiet, QuietBut}
use Rattle.run_report.specs.Writing.{LeavesRest}

-- the drain has a first part of these bytes more, and no write failed
pub record PutsSome (old new : DrainState) (whole : List ℕ) : Type 0 where
  pub rest : List ℕ
  pub leaves : LeavesRest old new whole rest

-- the file holds a first part of the text
pub record HoldsPart (folder : FolderState) (name whole : List ℕ) : Type 0 where
  pub part : List ℕ
  pub is_part : IsPrefix part whole
  pub holds : folder.file name ≡ Some part

-- no other file is changed, where the folder still tells its files, and no byte was read
pub record ChangesOnly (old new : FolderState) (name : List ℕ) : Type 0 where
  pub told : IsTrue new.tells → IsTrue old.tells
  pub others : IsTrue new.tells → (n : List ℕ) → n ≢ name → new.file n ≡ old.file n
  pub read : (n : List ℕ) → new.read n ≡ old.read n
  pub rfaults : Quiet old.rfaults new.rfaults

-- the file holds the text, and nothing else came of it
pub record Writes (old new : FolderState) (name whole : List ℕ) : Type 0 where
  pub only : ChangesOnly old new name
  pub file : IsTrue new.tells → new.file name ≡ Some whole
  pub refusals : Quiet old.refusals new.refusals
  pub wfaults : Quiet old.wfaults new.wfaults

-- a write failed, and the file holds a first part of the text
pub record FailsToWrite (old new : FolderState) (name whole : List ℕ) : Type 0 where
  pub only : ChangesOnly old new name
  pub file : IsTrue new.tells → HoldsPart new name whole
  pub refusals : Quiet old.refusals new.refusals
  pub rose : Rose (old.wfaults name) (new.wfaults name)
  pub wfaults : QuietBut name old.wfaults new.wfaults

-- the file was not opened, and nothing else came of it
pub record RefusesFile (old new : FolderState) (name : List ℕ) : Type 0 where
  pub files : SameFiles old new
  pub read : (n : List ℕ) → new.read n ≡ old.read n
  pub rfaults : Quiet old.rfaults new.rfaults
  pub rose : Rose (old.refusals name) (new.refusals name)
  pub refusals : QuietBut name old.refusals new.refusals
  pub wfaults : Quiet old.wfaults new.wfaults

-- memory was wanting: the file is as before or holds a first part of the text
pub record StopsWriting (old new : FolderState) (name whole : List ℕ) : Type 0 where
  pub only : ChangesOnly old new name
  pub file : IsTrue new.tells → (new.file name ≡ old.file name) ⊎ HoldsPart new name whole
  pub refusals : Quiet old.refusals new.refusals
  pub wfaults : Quiet old.wfaults new.wfaults
