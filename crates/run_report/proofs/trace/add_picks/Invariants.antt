-- The loop of `trace::add_picks`.
use Rattle.std.proofs.Common.{◌++◌, map}
use Rattle.plan_reader.specs.Text.{trace_text}
use Rattle.run_report.specs.Trace.{moves_in}
use Rattle.run_report.specs.Writing.{LeavesRest}
use Rattle.run_report.proofs.Tracing.{lines_from}
use Rattle.run_report.proofs.trace.add_picks.Given as goal

abbrev pub invariant-loop-i : goal.invariant-loop-i
invariant-loop-i g l =
    let state = g.D.Drain.state in
    LeavesRest (state l.initial.file) (state l.file) (l.initial.gathered.items ++ trace_text l.names (map moves_in l.picks)) (l.gathered.items ++ lines_from l.names l.picks l.i)
