use Rattle.std.proofs.Common.{◌≡◌, ◌++◌, length}
use Rattle.workbench_top.specs.Rows.{row_parts, later_lines}
use Rattle.workbench_top.proofs.rows.put_later.Given as goal

abbrev pub invariant-loop-part : goal.invariant-loop-part
invariant-loop-part l = l.out.items ++ later_lines l.place (row_parts l.rest) ≡ l.initial.out.items ++ later_lines 0 (row_parts l.parts)

abbrev pub decreases-loop-part : goal.decreases-loop-part
decreases-loop-part l = length l.rest
