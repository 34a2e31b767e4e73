-- What the call that a process makes answers and leaves, by the words that it was started with.
use Rattle.std.specs.Prelude.{◌≡◌, ℕ, ◌⊎◌, ◌↔◌, ◌≢◌, IsTrue, List, Result, Ok, Err, Some, None}
use Rattle.std.specs.declared.vec.Vec.{Vec}
use Rattle.std.specs.declared.alloc.Global.{Global}
use Rattle.process_words.specs.Words.{bytes_of, command_words}
use Rattle.stream_io.specs.Counts.{GrewAtMost}
use Rattle.stream_io.specs.Putting.{Puts, PutsPart}
use Rattle.stream_io.specs.State.{DrainState, FolderState}
use Rattle.stream_io.specs.Text.{text_limit}
use Rattle.run_report.specs.Asking.{Asked, asked_of}
use Rattle.run_report.specs.Report.{report_of, code_of}
use Rattle.run_report.specs.declared.outcome.Status.TheVariants as status
use Rattle.stream_command.specs.Answers.{AnswersCommand, IsValidFor}
use Rattle.stream_command.specs.Heads.{shipped_plugs}
use Rattle.stream_command.specs.Outcome.{Blank, RoseNowhere, RanWithoutFault}
use Rattle.stream_command.specs.Receipts.{ReceiptsOf, IslandsOf}
use Rattle.stream_command.specs.RunCalls.{answer_of}
use Rattle.stream_command.specs.declared.top.RunEnd.{RunEnd}

-- the report is behind what the console held, and the code is that of the status; or a first part of it is, where a write to the
-- console failed
abbrev pub IsReported : RunEnd → DrainState → DrainState → Type 0
IsReported end said_old said_new =
    (Puts said_old said_new (report_of (answer_of end)) × (end.code ≡ code_of end.status))
    ⊎ (PutsPart said_old said_new (report_of (answer_of end)) × (end.code ≡ 8))

-- what is answered to these words of a command, and what is left, with the plugs of the program
pub record AnswersShipped (words : List (List ℕ)) (end : RunEnd) (old new : FolderState) (said_old said_new : DrainState) : Type 0 where
  pub usage : end.status ≢ status.NoMemory → (end.status ≡ status.Usage ↔ asked_of words ≡ None)
  pub answers : AnswersCommand shipped_plugs (asked_of words) (answer_of end) old new
  pub complete : (c : Asked) → asked_of words ≡ Some c → IsValidFor shipped_plugs c.generated c.file c.trace c.replay old new → RoseNowhere old new
      → RanWithoutFault end.status
  pub ran : ReceiptsOf (asked_of words) (answer_of end) end.ran
  pub islands : IslandsOf shipped_plugs (asked_of words) end.ran old new
  pub reads : (c : Asked) → asked_of words ≡ Some c → GrewAtMost (old.read c.file) text_limit (new.read c.file)
  pub tells : IsTrue new.tells → IsTrue old.tells
  pub reported : IsReported end said_old said_new

-- memory was wanting as the words were read: nothing is touched
pub record LacksWords (end : RunEnd) (old new : FolderState) (said_old said_new : DrainState) : Type 0 where
  pub status : end.status ≡ status.NoMemory
  pub blank : Blank (answer_of end)
  pub same : new ≡ old
  pub reported : IsReported end said_old said_new

-- what is answered to a process with these words, the first of which is its program's name
abbrev pub AnswersProcess : {E : Type 0} → Result (Vec (Vec ℕ Global) Global) E → RunEnd → FolderState → FolderState → DrainState → DrainState → Type 0
AnswersProcess {E} (Ok words) end old new said_old said_new = AnswersShipped (command_words (bytes_of words.items)) end old new said_old said_new
AnswersProcess {E} (Err e) end old new said_old said_new = LacksWords end old new said_old said_new

-- and the process ends with the code of that answer
pub record EndsProcess {E : Type 0} (words : Result (Vec (Vec ℕ Global) Global) E) (code : ℕ) (old new : FolderState) (said_old said_new : DrainState)
    : Type 0 where
  pub end : RunEnd
  pub answers : AnswersProcess words end old new said_old said_new
  pub code_is : code ≡ end.code
