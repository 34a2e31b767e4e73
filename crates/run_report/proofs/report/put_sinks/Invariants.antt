use Rattle.std.proofs.Common.{drop}
use Rattle.std.specs.List.{flat_map}
use Rattle.run_report.specs.Report.{sink_line}
use Rattle.run_report.specs.Writing.{LeavesRest}
use Rattle.run_report.proofs.report.put_sinks.Given as goal

abbrev pub invariant-loop-sink : goal.invariant-loop-sink
invariant-loop-sink g l =
    let state = g.D.Drain.state in
    LeavesRest (state l.initial.console) (state l.console) (flat_map sink_line l.sinks) (flat_map sink_line (drop l.sink-index l.sinks))
