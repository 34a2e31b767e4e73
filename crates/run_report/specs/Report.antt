-- The report of a call: the status, and after a run a line for each sink, and for each wire where a sink has not ended.
use Rattle.std.specs.Prelude.{ℕ, ◌+◌, if◌then◌else◌, List, [], ◌∷◌, ◌++◌, codes}
use Rattle.std.specs.List.{flat_map}
use Rattle.std.specs.Fmt.{decimal}
use Rattle.elem_core.specs.Why.{number_of_why}
use Rattle.elem_core.specs.declared.why.Cause.{Cause}
use Rattle.elem_core.specs.declared.why.Why.{Why}
use Rattle.elem_core.specs.declared.why.Why.TheVariants.{Plug, IllegalCall}
use Rattle.blue_words.specs.Fault.{number_of_kind}
use Rattle.blue_check.specs.Number.{number_of_fault}
use Rattle.blue_check.specs.Detail.{detail_text}
use Rattle.stream_model.specs.declared.outcome.WireCount.{WireCount}
use Rattle.stream_model.specs.declared.outcome.EndState.{EndState}
use Rattle.stream_model.specs.declared.outcome.EndState.TheVariants as state
use Rattle.run_report.specs.Answer.{Answer}
use Rattle.run_report.specs.declared.outcome.Status.{Status}
use Rattle.run_report.specs.declared.outcome.Status.TheVariants as status
use Rattle.run_report.specs.declared.outcome.SinkEnd.{SinkEnd}

-- what is told of a rule that is broken
abbrev pub detail_of : Status → List ℕ
detail_of (status.Unfit f) = detail_text f
detail_of _ = []

-- the words of a status, where so many units were used
abbrev pub status_text : Status → ℕ → List ℕ
status_text status.Done used = codes "done"
status_text status.Usage used = codes "usage: streams (FILE | --gen N) [--workers N] [--turns N] [--trace FILE]"
status_text (status.Refused f) used = codes "refused line " ++ decimal f.line ++ codes " fault " ++ decimal (number_of_kind f.kind)
status_text (status.Unfit f) used = codes "unfit " ++ decimal (number_of_fault f) ++ detail_text f
status_text status.StreamFailed used = codes "failed"
status_text status.Stalled used = codes "stalled"
status_text status.OutOfTurns used = codes "out of turns " ++ decimal used
status_text (status.BadTrace line) used = codes "trace line " ++ decimal line
status_text (status.Misfit stage pick) used = codes "misfit stage " ++ decimal stage ++ codes " pick " ++ decimal pick
status_text (status.Missing name) used = codes "missing " ++ name
status_text status.ReadFault used = codes "read fault"
status_text status.WriteFault used = codes "write fault"
status_text status.NoMemory used = codes "no memory"

-- the number of a reason, and behind it the code that a plug gave or by which an ask is forbidden
abbrev pub why_text : Why → List ℕ
why_text (Plug c) = codes "15/" ++ decimal c
why_text (IllegalCall c) = codes "16/" ++ decimal c
why_text why = decimal (number_of_why why)

-- what is to blame
abbrev pub cause_text : Cause → List ℕ
cause_text c = codes " stage " ++ decimal c.stage ++ codes " nth " ++ decimal c.nth ++ codes " why " ++ why_text c.why

-- the word for a sink's end
abbrev pub end_text : EndState → List ℕ
end_text state.Ended = codes "ended"
end_text (state.Failed c) = codes "failed"
end_text state.Unended = codes "unended"
end_text state.WriteFault = codes "fault"

-- what is said of the cause of a sink that failed; nothing of any other
abbrev pub blame_text : EndState → List ℕ
blame_text (state.Failed c) = cause_text c
blame_text _ = []

-- the line of a sink, with its LF
abbrev pub sink_line : SinkEnd → List ℕ
sink_line s = (codes "sink " ++ s.name ++ codes " " ++ end_text s.end ++ codes " " ++ decimal s.count) ++ (blame_text s.end ++ codes "\n")

-- the line of wire n, with its LF
abbrev pub wire_line : ℕ → WireCount → List ℕ
wire_line n w =
    codes "wire " ++ decimal n ++ codes " sent " ++ decimal w.sent
    ++ (if w.asked then codes " asked" else codes " unasked") ++ (if w.shut then codes " shut" else codes " live") ++ codes "\n"

-- the lines of wires, from number n on
abbrev pub wire_lines : ℕ → List WireCount → List ℕ
wire_lines n [] = []
wire_lines n (w ∷ ws) = wire_line n w ++ wire_lines (n + 1) ws

-- the wires are told of where a sink has not ended
abbrev pub wires_text : Status → List WireCount → List ℕ
wires_text status.Stalled ws = wire_lines 0 ws
wires_text status.OutOfTurns ws = wire_lines 0 ws
wires_text _ ws = []

-- the whole report
abbrev pub report_of : Answer → List ℕ
report_of a = (status_text a.status a.used ++ codes "\n") ++ (flat_map sink_line a.sinks ++ wires_text a.status a.wires)

-- the exit code of a status
abbrev pub code_of : Status → ℕ
code_of status.Done = 0
code_of status.Usage = 1
code_of (status.Refused f) = 2
code_of (status.Unfit f) = 2
code_of status.StreamFailed = 3
code_of status.Stalled = 4
code_of status.OutOfTurns = 5
code_of (status.BadTrace line) = 2
code_of (status.Misfit stage pick) = 2
code_of (status.Missing name) = 6
code_of status.ReadFault = 7
code_of status.WriteFault = 8
code_of status.NoMemory = 9
