-- The loop of `trace::add_moves`.
use Rattle.std.proofs.Common.{◌++◌, drop}
use Rattle.std.specs.List.{flat_map}
use Rattle.plan_reader.specs.Text.{move_text}
use Rattle.run_report.specs.Writing.{LeavesRest}
use Rattle.run_report.proofs.trace.add_moves.Given as goal

abbrev pub invariant-loop-m : goal.invariant-loop-m
invariant-loop-m g l =
    let state = g.D.Drain.state in
    LeavesRest (state l.initial.file) (state l.file) (l.initial.gathered.items ++ flat_map move_text l.moves) (l.gathered.items ++ flat_map move_text (drop l.m-index l.moves))
