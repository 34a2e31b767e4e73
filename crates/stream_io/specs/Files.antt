-- Files in memory, as a list, and what a folder of them tells.
use Rattle.std.specs.Prelude.{ℕ, Bool, List, [], ◌∷◌, Option, Some, None, if◌then◌else◌, Vec}
use Rattle.std.specs.declared.alloc.Global.{Global}
use Rattle.stream_io.specs.State.{FolderState}
use Rattle.stream_io.specs.Tally.{same_name, folder_of_counts}
use Rattle.stream_io.specs.declared.named_file.NamedFile.{NamedFile}
use Rattle.stream_io.specs.declared.tally.Counts.{Counts}

-- the bytes of the first file of a name
abbrev pub bytes_of_file : List NamedFile → List ℕ → Option (List ℕ)
bytes_of_file [] n = None
bytes_of_file (f ∷ fs) n = if same_name f.name n then Some f.bytes.items else bytes_of_file fs n

-- the files, where the first of a name has these bytes
abbrev pub with_file : List NamedFile → List ℕ → Vec ℕ Global → List NamedFile
with_file [] n bytes = []
with_file (f ∷ fs) n bytes =
    if same_name f.name n then record f { bytes = bytes } ∷ fs else f ∷ with_file fs n bytes

-- what a folder tells of files in memory and of counts by name
abbrev pub folder_of : Bool → List NamedFile → List Counts → FolderState
folder_of tells files counts = record (folder_of_counts counts) { tells = tells; file = bytes_of_file files }

-- what such a folder tells whose calls never fail
abbrev pub sure_folder_of : Bool → List NamedFile → List Counts → FolderState
sure_folder_of tells files counts = record (folder_of tells files counts) {
  refusals = λ n. 0;
  rfaults = λ n. 0;
  wfaults = λ n. 0;
}
