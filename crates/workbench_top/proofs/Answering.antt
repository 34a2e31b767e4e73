-- Answers to words.
use Rattle.std.proofs.Common.{◌≡◌, ◌⊎◌, inl, inr, ℕ, List, Some}
use Rattle.stream_io.specs.State.{FolderState}
use Rattle.stream_io.specs.Text.{ReadsFile}
use Rattle.workbench_top.specs.Task.{Asks, row_in, files_in}
use Rattle.workbench_top.specs.declared.task.Task.{Task}
use Rattle.workbench_top.specs.Rows.{PrintsRow, row_text}
use Rattle.workbench_top.specs.declared.answer.Answer.{Answer}
use Rattle.workbench_top.specs.declared.answer.Ending.TheVariants as ending
use Rattle.workbench_top.specs.Files.{ChecksFiles, ChecksRead}
use Rattle.workbench_top.specs.Call.{AnswersTask, AnswersNothing, AnswersWords, IsUnread}

-- words that ask for a task
pub asked : (words : List (List ℕ)) (t : Task) (old new : FolderState) (a : Answer) → Asks words t → AnswersTask t old new a → AnswersWords words old new a
asked words t old new a asks answers = inr (inr (inr (inr (record { task = t; asks = asks; answers = answers }))))

-- words that ask for nothing
pub nothing_asked : (words : List (List ℕ)) (old new : FolderState) (a : Answer) → AnswersNothing words a ⊎ (a.ending ≡ ending.NoMemory) → AnswersWords words old new a
nothing_asked words old new a ends = elim ends [
  | inl nothing ↦ inl nothing
  | inr memory ↦ inr (inl memory)
]

-- words that ask for a row
pub row_asked : (words : List (List ℕ)) (source parts : List ℕ) (old new : FolderState) (a : Answer) → row_in words ≡ Some (source, parts) → PrintsRow (row_text source parts) a → AnswersWords words old new a
row_asked words source parts old new a asks prints = inr (inr (inl (record { source = source; parts = parts; asks = asks; prints = prints })))

-- words that ask to check a blueprint with the files that it names
pub files_asked : (words : List (List ℕ)) (file : List ℕ) (old new : FolderState) (a : Answer) → files_in words ≡ Some file → IsUnread file old new a ⊎ ChecksRead file old new a → AnswersWords words old new a
files_asked words file old new a asks answers = inr (inr (inr (inl (record { file = file; asks = asks; answers = answers }))))

-- the blueprint's file was not read
pub unread : (t : Task) (old new : FolderState) (a : Answer) → IsUnread t.file old new a → AnswersTask t old new a
unread t old new a ends = elim ends [
  | inl missing ↦ inl missing
  | inr other ↦ (elim other [
    | inl fault ↦ inr (inl (fault.0, inl fault.1))
    | inr memory ↦ inr (inr (inl memory))
  ])
]

-- it was read, and checked with the files that it names
pub read_checked : (file text : List ℕ) (old mid new : FolderState) (a : Answer) → ReadsFile old mid file text → ChecksFiles text file mid new a ⊎ (a.ending ≡ ending.NoMemory)
    → IsUnread file old new a ⊎ ChecksRead file old new a
read_checked file text old mid new a reads checks = elim checks [
  | inl checked ↦ inr (record { text = text; read = mid; reads = reads; checks = checked })
  | inr memory ↦ inl (inr (inr memory))
]
