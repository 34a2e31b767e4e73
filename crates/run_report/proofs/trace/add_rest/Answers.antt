-- The goals of `trace::add_rest` that the search leaves.
use Rattle.std.proofs.Common.{codes}
use Rattle.std.specs.List.{flat_map}
use Rattle.plan_reader.specs.Text.{move_text}
use Rattle.stream_io.proofs.Puttings.{on_err}
use Rattle.run_report.proofs.Tracing.{stops_first, then_adds, then_stops}
use Rattle.run_report.proofs.trace.add_rest.Goals as goal

pub returns-in_err-add_moves-clause-err : goal.returns-in_err-add_moves-clause-err
returns-in_err-add_moves-clause-err g c = on_err _ (stops_first _ _ c.args.gathered.now.items (flat_map move_text c.args.moves.now) (codes "\n") c.in_err-add_moves.ensures.err)

pub returns-clause-ok : goal.returns-clause-ok
returns-clause-ok g c = then_adds _ _ _ _ _ _ _ _ _ c.in_ok-add_moves.ensures.ok c.add.ensures.ok

pub returns-clause-err : goal.returns-clause-err
returns-clause-err g c = then_stops _ _ _ _ _ _ _ _ c.in_ok-add_moves.ensures.ok c.add.ensures.err
