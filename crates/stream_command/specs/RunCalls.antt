-- The answer of the top call.
use Rattle.std.specs.Prelude.{map}
use Rattle.interpreter.specs.Picks.{pick_of}
use Rattle.run_report.specs.Answer.{Answer}
use Rattle.stream_command.specs.declared.top.RunEnd.{RunEnd}

-- the answer that it gives with its exit code
abbrev pub answer_of : RunEnd → Answer
answer_of e = record { status = e.status; sinks = e.sinks.items; wires = e.picture.wires.items; picks = map pick_of e.picks.items; used = e.used }
