use Rattle.std.proofs.Common.{◌≡◌, false, replicate}
use Rattle.blue_check.proofs.marks.no_marks.Given as goal

abbrev pub invariant-marks : goal.invariant-marks
invariant-marks l = l.marks.items ≡ replicate l.counter false
