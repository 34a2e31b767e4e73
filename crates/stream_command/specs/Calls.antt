-- What stream_command says of plugs, of an answer and of a folder, for those above, who then name this crate alone.
use Rattle.run_report.specs.Answer.{Answer}
use Rattle.run_report.specs.declared.outcome.Status.{Status}
use Rattle.stream_io.specs.State.{FolderState}
use Rattle.stream_command.specs.Asked as asked
use Rattle.stream_command.specs.RunCalls as calls
use Rattle.stream_command.specs.Outcome as outcome
use Rattle.stream_command.specs.declared.top.RunEnd.{RunEnd}

-- the heads of the plugs that are handed in, and their book
abbrev pub HandedPlugs : Type 0
HandedPlugs = asked.Plugged

-- what a call answered
abbrev pub answer_of : RunEnd → Answer
answer_of e = calls.answer_of e

-- no count of the folder rose
abbrev pub RoseNowhere : FolderState → FolderState → Type 0
RoseNowhere old new = outcome.RoseNowhere old new

-- a blueprint was run
abbrev pub WasRun : Status → Type 0
WasRun s = outcome.RanWithoutFault s
