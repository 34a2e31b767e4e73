-- What the generator leaves: the lines are written first, and then the blueprint.
use Rattle.std.specs.Prelude.{◌≡◌, ◌≢◌, ℕ, ◌⊎◌, IsTrue, List, Some}
use Rattle.stream_io.specs.Counts.{Rose}
use Rattle.stream_io.specs.State.{FolderState}
use Rattle.stream_io.specs.Quiet.{Quiet, QuietBut}
use Rattle.run_report.specs.Texts.{lines_file, blueprint_file, numbered_lines, blueprint_text}
use Rattle.run_report.specs.FileWriting.{HoldsPart, FailsToWrite, RefusesFile}

-- no file but the two is changed, where the folder still tells its files, and no byte was read
pub record ChangesTwo (old new : FolderState) : Type 0 where
  pub told : IsTrue new.tells → IsTrue old.tells
  pub others : IsTrue new.tells → (n : List ℕ) → n ≢ lines_file → n ≢ blueprint_file → new.file n ≡ old.file n
  pub read : (n : List ℕ) → new.read n ≡ old.read n
  pub rfaults : Quiet old.rfaults new.rfaults

-- both files hold their texts, and nothing else came of it
pub record Generates (old new : FolderState) (n : ℕ) : Type 0 where
  pub two : ChangesTwo old new
  pub lines : IsTrue new.tells → new.file lines_file ≡ Some (numbered_lines n)
  pub blueprint : IsTrue new.tells → new.file blueprint_file ≡ Some blueprint_text
  pub refusals : Quiet old.refusals new.refusals
  pub wfaults : Quiet old.wfaults new.wfaults

-- the lines are there; the blueprint's file was not opened, and is as before
pub record RefusesBlueprint (old new : FolderState) (n : ℕ) : Type 0 where
  pub two : ChangesTwo old new
  pub lines : IsTrue new.tells → new.file lines_file ≡ Some (numbered_lines n)
  pub blueprint : IsTrue new.tells → new.file blueprint_file ≡ old.file blueprint_file
  pub rose : Rose (old.refusals blueprint_file) (new.refusals blueprint_file)
  pub refusals : QuietBut blueprint_file old.refusals new.refusals
  pub wfaults : Quiet old.wfaults new.wfaults

-- the file of this name was not opened: the lines', before which nothing came, or the blueprint's
abbrev pub MissesInputFile : FolderState → FolderState → ℕ → List ℕ → Type 0
MissesInputFile old new n name = ((name ≡ lines_file) × RefusesFile old new lines_file) ⊎ ((name ≡ blueprint_file) × RefusesBlueprint old new n)

-- the lines are there; a write of the blueprint failed, and its file holds a first part
pub record FailsAtBlueprint (old new : FolderState) (n : ℕ) : Type 0 where
  pub two : ChangesTwo old new
  pub lines : IsTrue new.tells → new.file lines_file ≡ Some (numbered_lines n)
  pub blueprint : IsTrue new.tells → HoldsPart new blueprint_file blueprint_text
  pub refusals : Quiet old.refusals new.refusals
  pub rose : Rose (old.wfaults blueprint_file) (new.wfaults blueprint_file)
  pub wfaults : QuietBut blueprint_file old.wfaults new.wfaults

-- a write failed: of the lines, and the blueprint's file is as before, or of the blueprint
abbrev pub FailsAtFile : FolderState → FolderState → ℕ → Type 0
FailsAtFile old new n = FailsToWrite old new lines_file (numbered_lines n) ⊎ FailsAtBlueprint old new n

-- memory was wanting: each of the two files is as before or holds a first part of its text
pub record StopsGenerating (old new : FolderState) (n : ℕ) : Type 0 where
  pub two : ChangesTwo old new
  pub lines : IsTrue new.tells → (new.file lines_file ≡ old.file lines_file) ⊎ HoldsPart new lines_file (numbered_lines n)
  pub blueprint : IsTrue new.tells → (new.file blueprint_file ≡ old.file blueprint_file) ⊎ HoldsPart new blueprint_file blueprint_text
  pub refusals : Quiet old.refusals new.refusals
  pub wfaults : Quiet old.wfaults new.wfaults
