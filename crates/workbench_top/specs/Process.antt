-- What the call that a process of the workbench makes answers and leaves, by the words that it was started with.
use Rattle.std.specs.Prelude.{◌≡◌, ℕ, List, Result, Ok, Err}
use Rattle.std.specs.declared.vec.Vec.{Vec}
use Rattle.std.specs.declared.alloc.Global.{Global}
use Rattle.process_words.specs.Words.{bytes_of, command_words}
use Rattle.stream_io.specs.State.{FolderState, DrainState}
use Rattle.workbench_top.specs.Call.{IsAnswerPut, Works}
use Rattle.workbench_top.specs.declared.answer.Answer.{Answer}
use Rattle.workbench_top.specs.declared.answer.Ending.TheVariants as ending

-- an answer is put that memory was wanting
pub record PutsNoMemory (said_old said_new told_old told_new : DrainState) (code : ℕ) : Type 0 where
  pub answer : Answer
  pub ending : answer.ending ≡ ending.NoMemory
  pub put : IsAnswerPut answer said_old said_new told_old told_new code

-- memory was wanting as the words were read: the folder is not touched
pub record LeavesUnread (old new : FolderState) (said_old said_new told_old told_new : DrainState) (code : ℕ) : Type 0 where
  pub same : new ≡ old
  pub puts : PutsNoMemory said_old said_new told_old told_new code

-- what is answered to a process with these words, the first of which is its program's name, and with which code it ends
abbrev pub EndsWorkbench : {E : Type 0} → Result (Vec (Vec ℕ Global) Global) E → FolderState → FolderState → DrainState → DrainState → DrainState → DrainState
    → ℕ → Type 0
EndsWorkbench {E} (Ok words) old new said_old said_new told_old told_new code = Works
    (command_words (bytes_of words.items)) old new said_old said_new told_old told_new code
EndsWorkbench {E} (Err e) old new said_old said_new told_old told_new code = LeavesUnread old new said_old said_new told_old told_new code
