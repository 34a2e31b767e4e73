-- What a call of the workbench answers and leaves.
use Rattle.std.specs.Prelude.{◌≡◌, ℕ, ◌⊎◌, ◌++◌, IsTrue, false, List, [], Some, None, codes}
use Rattle.std.specs.Option.{option_map}
use Rattle.stream_io.specs.State.{FolderState, DrainState, SameFiles}
use Rattle.stream_io.specs.Text.{text_of_file, StaysMissing, FailsToRead}
use Rattle.stream_io.specs.Putting.{Puts}
use Rattle.workbench_top.specs.Task.{Asks, is_task, row_in, files_in}
use Rattle.workbench_top.specs.declared.task.Task.{Task}
use Rattle.workbench_top.specs.declared.task.TaskKind.TheVariants.{Explain}
use Rattle.workbench_top.specs.Answer.{AnswersText, code_of}
use Rattle.workbench_top.specs.Rows.{PrintsRow, row_text}
use Rattle.workbench_top.specs.Files.{ChecksRead}
use Rattle.workbench_top.specs.declared.answer.Answer.{Answer}
use Rattle.workbench_top.specs.declared.answer.Ending.TheVariants as ending

-- the answer to a task is that to its work on the text of its file, in a folder that tells its files
pub record AnswersFile (t : Task) (old : FolderState) (a : Answer) : Type 0 where
  pub text : List ℕ
  pub is : option_map text_of_file (old.file t.file) ≡ Some text
  pub answers : AnswersText t.work text t.file t.counts.items a

-- what is told of a file that is not there: its name
abbrev pub missing_text : List ℕ → List ℕ
missing_text file = codes "the blueprint's file " ++ (file ++ codes " is not there, or was refused\n")

-- the answer is that the file is not there: nothing is said, and its name is told
pub record IsMissing (file : List ℕ) (a : Answer) : Type 0 where
  pub ending : a.ending ≡ ending.Missing
  pub said : a.said.items ≡ []
  pub told : a.told.items ≡ missing_text file

-- the blueprint's file is not there, or could not be read, or memory was wanting
abbrev pub IsUnread : List ℕ → FolderState → FolderState → Answer → Type 0
IsUnread file old new a =
    (IsMissing file a × StaysMissing old new file) ⊎ (((a.ending ≡ ending.ReadFault) × FailsToRead old new file) ⊎ (a.ending ≡ ending.NoMemory))

-- The file is not there; it, or the report, could not be read; memory was wanting; or the text is answered.
abbrev pub AnswersTask : Task → FolderState → FolderState → Answer → Type 0
AnswersTask t old new a =
    (IsMissing t.file a × StaysMissing old new t.file)
    ⊎ (((a.ending ≡ ending.ReadFault) × (FailsToRead old new t.file ⊎ (t.work ≡ Explain)))
    ⊎ ((a.ending ≡ ending.NoMemory) ⊎ (IsTrue old.tells → AnswersFile t old a)))

-- the answer to a task that the words ask for
pub record AnswersAsked (words : List (List ℕ)) (old new : FolderState) (a : Answer) : Type 0 where
  pub task : Task
  pub asks : Asks words task
  pub answers : AnswersTask task old new a

-- the answer to a row that the words ask for
pub record AnswersRow (words : List (List ℕ)) (a : Answer) : Type 0 where
  pub source : List ℕ
  pub parts : List ℕ
  pub asks : row_in words ≡ Some (source, parts)
  pub prints : PrintsRow (row_text source parts) a

-- the answer where the words ask to check a blueprint with the files that it names
pub record AnswersFiles (words : List (List ℕ)) (old new : FolderState) (a : Answer) : Type 0 where
  pub file : List ℕ
  pub asks : files_in words ≡ Some file
  pub answers : IsUnread file old new a ⊎ ChecksRead file old new a

-- the words are no command: help is said, or what is wrong is told
pub record AnswersNothing (words : List (List ℕ)) (a : Answer) : Type 0 where
  pub row : row_in words ≡ None
  pub files : files_in words ≡ None
  pub grammar : is_task words ≡ false
  pub ending : (a.ending ≡ ending.Done) ⊎ (a.ending ≡ ending.Words)

-- what is answered to words; memory may be wanting at any words
abbrev pub AnswersWords : List (List ℕ) → FolderState → FolderState → Answer → Type 0
AnswersWords words old new a = AnswersNothing words a ⊎ ((a.ending ≡ ending.NoMemory) ⊎ (AnswersRow words a ⊎ (AnswersFiles words old new a ⊎ AnswersAsked words old new a)))

-- the answer is put: what is said on the console, and what is told where faults are told; or a write failed, which is code 8
abbrev pub IsAnswerPut : Answer → DrainState → DrainState → DrainState → DrainState → ℕ → Type 0
IsAnswerPut a said_old said_new told_old told_new code =
    (Puts said_old said_new a.said.items × (Puts told_old told_new a.told.items × (code ≡ code_of a.ending))) ⊎ (code ≡ 8)

-- no file is changed, and the answer is put
pub record Works (words : List (List ℕ)) (old new : FolderState) (said_old said_new told_old told_new : DrainState) (code : ℕ) : Type 0 where
  pub answer : Answer
  pub answers : AnswersWords words old new answer
  pub files : SameFiles old new
  pub put : IsAnswerPut answer said_old said_new told_old told_new code
