-- The goals of `trace::add_pick` that the search leaves.
use Rattle.std.proofs.Common.{codes, ◌++◌}
use Rattle.std.specs.List.{flat_map}
use Rattle.plan_reader.specs.Text.{move_text}
use Rattle.run_report.specs.Trace.{moves_in}
use Rattle.stream_io.proofs.Puttings.{on_err}
use Rattle.run_report.proofs.Tracing.{stops_first, then_adds, then_stops}
use Rattle.run_report.proofs.trace.add_pick.Goals as goal

pub returns-in_err-add_head-clause-err : goal.returns-in_err-add_head-clause-err
returns-in_err-add_head-clause-err g c = on_err _ (stops_first _ _ c.args.gathered.now.items (codes "pick " ++ c.args.name.now) (flat_map move_text (moves_in c.args.picks.now) ++ codes "\n") c.in_err-add_head.ensures.err)

pub returns-clause-ok : goal.returns-clause-ok
returns-clause-ok g c = then_adds _ _ _ _ _ _ _ _ _ c.in_ok-add_head.ensures.ok (rw c.deref.ensures.value at c.add_rest.ensures.ok)

pub returns-clause-err : goal.returns-clause-err
returns-clause-err g c = then_stops _ _ _ _ _ _ _ _ c.in_ok-add_head.ensures.ok (rw c.deref.ensures.value at c.add_rest.ensures.err)
