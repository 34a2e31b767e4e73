-- What the words of the workbench ask for.
use Rattle.std.specs.Prelude.{◌≡◌, ℕ, Bool, true, false, ◌&&◌, if◌then◌else◌, List, [], ◌∷◌, map, Option, Some, None, Result, Ok, Err, codes}
use Rattle.std.specs.List.{list_all}
use Rattle.std.specs.Str.{bytes_eq}
use Rattle.blue_words.specs.declared.fault.BlueKind.{BlueKind}
use Rattle.blue_words.specs.Cut.{cut_at}
use Rattle.blue_words.specs.Names.{is_file_name}
use Rattle.blue_words.specs.Numbers.{read_count}
use Rattle.workbench_top.specs.declared.task.Task.{Task}
use Rattle.workbench_top.specs.declared.task.TaskEnd.{TaskEnd}
use Rattle.workbench_top.specs.declared.task.TaskEnd.TheVariants.{NoMemory}
use Rattle.workbench_top.specs.declared.task.TaskKind.{TaskKind}
use Rattle.workbench_top.specs.declared.task.TaskKind.TheVariants.{Check, Format, Draw, Explain, Turns}

-- the row behind the command's name: what stands before its first bar, and what stands behind it
abbrev pub row_named : List ℕ → List ℕ → Option (List ℕ × List ℕ)
row_named name row = if bytes_eq name (codes "row") then cut_at 124 row else None

-- the row that words ask for
abbrev pub row_in : List (List ℕ) → Option (List ℕ × List ℕ)
row_in (name ∷ row ∷ []) = row_named name row
row_in _ = None

-- the word, if it is the name of a file
abbrev pub named_file : List ℕ → Option (List ℕ)
named_file word = if is_file_name word then Some word else None

-- the file behind or before the option that looks for files
abbrev pub files_behind : List ℕ → List ℕ → Option (List ℕ)
files_behind first second =
    if bytes_eq first (codes "--files") then named_file second
    else (if bytes_eq second (codes "--files") then named_file first else None)

-- the same of the command `check`
abbrev pub files_named : List ℕ → List ℕ → List ℕ → Option (List ℕ)
files_named name first second = if bytes_eq name (codes "check") then files_behind first second else None

-- the blueprint's file that words ask to check with the files that it names
abbrev pub files_in : List (List ℕ) → Option (List ℕ)
files_in (name ∷ first ∷ second ∷ []) = files_named name first second
files_in _ = None

-- the work of that name
abbrev pub task_named : List ℕ → Option TaskKind
task_named word =
    if bytes_eq word (codes "check") then Some Check
    else (if bytes_eq word (codes "fmt") then Some Format
    else (if bytes_eq word (codes "draw") then Some Draw
    else (if bytes_eq word (codes "explain") then Some Explain
    else (if bytes_eq word (codes "turns") then Some Turns else None))))

-- the place is a number
abbrev pub is_read : Result ℕ BlueKind → Bool
is_read (Ok n) = true
is_read (Err k) = false

-- each word is a number of 64 bits
abbrev pub are_numbers : List (List ℕ) → Bool
are_numbers ws = list_all (λ w. is_read (read_count 64 w)) ws

-- there is no word
abbrev pub is_nothing : List (List ℕ) → Bool
is_nothing [] = true
is_nothing (w ∷ ws) = false

-- words may stand behind the file: of `turns` alone
abbrev pub allows : TaskKind → List (List ℕ) → Bool
allows Turns rest = true
allows _ rest = is_nothing rest

-- the file is the name of one, and the words behind it are what the work wants
abbrev pub is_rest : TaskKind → List ℕ → List (List ℕ) → Bool
is_rest work file rest = is_file_name file && allows work rest && are_numbers rest

-- the file is the name of one, and the words behind it are what this work wants
abbrev pub is_rest_of : Option TaskKind → List ℕ → List (List ℕ) → Bool
is_rest_of None file rest = false
is_rest_of (Some work) file rest = is_rest work file rest

-- the words are in the grammar: a work, a file, and what the work wants
abbrev pub is_task : List (List ℕ) → Bool
is_task (name ∷ file ∷ rest) = is_rest_of (task_named name) file rest
is_task _ = false

-- the words ask for this task, where these are the words behind the work's name
abbrev pub task_words : List (List ℕ) → Task → Type 0
task_words (file ∷ rest) t = (t.file ≡ file) × (map (λ n. Ok n) t.counts.items ≡ map (read_count 64) rest)
task_words _ t = ⊥

-- the words ask for this task
abbrev pub asks_for : List (List ℕ) → Task → Type 0
asks_for [] t = ⊥
asks_for (name ∷ ws) t = (task_named name ≡ Some t.work) × task_words ws t

-- the words are in the grammar, and ask for this task
pub record Asks (words : List (List ℕ)) (t : Task) : Type 0 where
  pub grammar : is_task words ≡ true
  pub task : asks_for words t

-- the words ask for nothing; memory may be wanting at any words
abbrev pub TaskEnds : List (List ℕ) → TaskEnd → Type 0
TaskEnds words NoMemory = Unit {0}
TaskEnds words _ = is_task words ≡ false
