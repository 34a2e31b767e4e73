use Rattle.std.proofs.Common.{◌-◌, ◌+◌, ◌≤◌}
use Rattle.std.specs.List.{flat_map, range_with_len}
use Rattle.run_report.specs.Writing.{LeavesRest}
use Rattle.run_report.specs.Texts.{line_of, numbered_lines}
use Rattle.run_report.proofs.generator_put.put_lines.Given as goal

abbrev pub invariant-loop-done : goal.invariant-loop-done
invariant-loop-done g l =
    let state = g.D.Drain.state in
    record {
      within : l.done ≤ l.n;
      leaves : LeavesRest (state l.initial.drain) (state l.drain) (numbered_lines l.n) (flat_map (line_of l.n) (range_with_len (l.done + 1) (l.n - l.done)));
    }

abbrev pub decreases-loop-done : goal.decreases-loop-done
decreases-loop-done g l = l.n - l.done
