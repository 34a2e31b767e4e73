-- The text of a file that was read to its end, or to a limit: of a blueprint's file one byte past the greatest length of a blueprint.
use Rattle.std.specs.Prelude.{◌≡◌, ◌≢◌, ℕ, ◌⊎◌, IsTrue, List, take, Some}
use Rattle.std.specs.Option.{option_map}
use Rattle.stream_io.specs.Counts.{Rose}
use Rattle.stream_io.specs.State.{FolderState, SameFiles, LacksFile}
use Rattle.stream_io.specs.Quiet.{Quiet, QuietBut}

-- how many bytes of a blueprint's file are read
abbrev pub text_limit : ℕ
text_limit = 1048577

-- the first bytes of a file, so many as are read
abbrev pub text_of_file : List ℕ → List ℕ
text_of_file whole = take text_limit whole

-- the file of that name was read up to that limit, and nothing else came of it
pub record ReadsUpTo (limit : ℕ) (old new : FolderState) (name text : List ℕ) : Type 0 where
  pub files : SameFiles old new
  pub text_is : IsTrue old.tells → option_map (λ whole. take limit whole) (old.file name) ≡ Some text
  pub read : (n : List ℕ) → n ≢ name → new.read n ≡ old.read n
  pub refusals : Quiet old.refusals new.refusals
  pub rfaults : Quiet old.rfaults new.rfaults
  pub wfaults : Quiet old.wfaults new.wfaults

-- the same of a blueprint's file
abbrev pub ReadsFile : FolderState → FolderState → List ℕ → List ℕ → Type 0
ReadsFile old new name text = ReadsUpTo text_limit old new name text

-- a read of that name's file failed, and nothing else came of it
pub record FailsToRead (old new : FolderState) (name : List ℕ) : Type 0 where
  pub files : SameFiles old new
  pub read : (n : List ℕ) → n ≢ name → new.read n ≡ old.read n
  pub rose : Rose (old.rfaults name) (new.rfaults name)
  pub refusals : Quiet old.refusals new.refusals
  pub rfaults : QuietBut name old.rfaults new.rfaults
  pub wfaults : Quiet old.wfaults new.wfaults

-- that name's file is not there, or its opening was refused; nothing else came of it
pub record StaysMissing (old new : FolderState) (name : List ℕ) : Type 0 where
  pub files : SameFiles old new
  pub read : (n : List ℕ) → new.read n ≡ old.read n
  pub why : LacksFile old name ⊎ Rose (old.refusals name) (new.refusals name)
  pub refusals : QuietBut name old.refusals new.refusals
  pub rfaults : Quiet old.rfaults new.rfaults
  pub wfaults : Quiet old.wfaults new.wfaults

-- some of that name's file may have been read, and nothing else came of it
pub record StaysQuiet (old new : FolderState) (name : List ℕ) : Type 0 where
  pub files : SameFiles old new
  pub read : (n : List ℕ) → n ≢ name → new.read n ≡ old.read n
  pub refusals : Quiet old.refusals new.refusals
  pub rfaults : Quiet old.rfaults new.rfaults
  pub wfaults : Quiet old.wfaults new.wfaults
