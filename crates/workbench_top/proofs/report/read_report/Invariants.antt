use Rattle.std.proofs.Common.{◌≤◌, ◌-◌, vec_len}
use Rattle.workbench_top.proofs.report.read_report.Given as goal

abbrev pub invariant-loop-input : goal.invariant-loop-input
invariant-loop-input g l = vec_len l.report ≤ 1048577

abbrev pub decreases-loop-input : goal.decreases-loop-input
decreases-loop-input g l = 1048577 - vec_len l.report
