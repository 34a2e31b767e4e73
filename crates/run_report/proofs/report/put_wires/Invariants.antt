use Rattle.std.proofs.Common.{drop}
use Rattle.run_report.specs.Report.{wire_lines}
use Rattle.run_report.specs.Writing.{LeavesRest}
use Rattle.run_report.proofs.report.put_wires.Given as goal

abbrev pub invariant-loop-n : goal.invariant-loop-n
invariant-loop-n g l =
    let state = g.D.Drain.state in
    LeavesRest (state l.initial.console) (state l.console) (wire_lines 0 l.wires) (wire_lines l.n (drop l.n l.wires))
