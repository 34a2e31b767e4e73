-- The goals of `trace::add_move` that the search leaves.
use Rattle.std.proofs.Common.{◌≡◌, codes, rules}
use Rattle.std.specs.Fmt.{decimal}
use Rattle.stream_io.proofs.Puttings.{on_err}
use Rattle.run_report.proofs.Tracing.{stops_first, then_adds, then_stops}
use Rattle.run_report.proofs.trace.add_move.Goals as goal

pub returns-in_err-add-clause-err : goal.returns-in_err-add-clause-err
returns-in_err-add-clause-err g c = on_err _ (stops_first _ _ c.args.gathered.now.items (codes " ") (decimal c.args.m) c.in_err-add.ensures.err)

pub returns-clause-ok : goal.returns-clause-ok
returns-clause-ok g c =
    let digits : c.as_bytes.result.now ≡ decimal c.args.m = search rules in
    then_adds _ _ _ _ _ _ _ _ _ c.in_ok-add.ensures.ok (rw digits at c.add-2.ensures.ok)

pub returns-clause-err : goal.returns-clause-err
returns-clause-err g c =
    let digits : c.as_bytes.result.now ≡ decimal c.args.m = search rules in
    then_stops _ _ _ _ _ _ _ _ c.in_ok-add.ensures.ok (rw digits at c.add-2.ensures.err)
