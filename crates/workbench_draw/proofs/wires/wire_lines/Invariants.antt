use Rattle.std.proofs.Common.{◌≡◌, vec_len}
use Rattle.workbench_draw.proofs.wires.wire_lines.Given as goal

abbrev pub invariant-loop-i : goal.invariant-loop-i
invariant-loop-i l = vec_len l.lines ≡ l.i
