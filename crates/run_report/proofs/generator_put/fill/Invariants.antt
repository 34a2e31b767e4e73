use Rattle.std.proofs.Common.{◌-◌, ◌≡◌, ◌+◌, ◌≤◌}
use Rattle.std.specs.List.{flat_map, range_with_len}
use Rattle.run_report.specs.Texts.{line_of}
use Rattle.run_report.proofs.generator_put.fill.Given as goal

abbrev pub invariant-loop-done : goal.invariant-loop-done
invariant-loop-done l = record {
  within : l.done ≤ l.count;
  items : l.piece.items ≡ flat_map (line_of l.n) (range_with_len (l.before + 1) l.done);
}

abbrev pub decreases-loop-done : goal.decreases-loop-done
decreases-loop-done l = l.count - l.done
