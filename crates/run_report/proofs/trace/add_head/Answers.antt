-- The goals of `trace::add_head` that the search leaves.
use Rattle.std.proofs.Common.{◌≡◌, codes}
use Rattle.stream_io.proofs.Puttings.{on_err}
use Rattle.run_report.proofs.Tracing.{stops_first, then_adds, then_stops}
use Rattle.run_report.proofs.trace.add_head.Goals as goal

pub returns-in_err-add-clause-err : goal.returns-in_err-add-clause-err
returns-in_err-add-clause-err g c = on_err _ (stops_first _ _ c.args.gathered.now.items (codes "pick ") c.args.name.now c.in_err-add.ensures.err)

pub returns-clause-ok : goal.returns-clause-ok
returns-clause-ok g c =
    let named : c.bytes.result.now ≡ c.args.name.now = c.bytes.ensures.value in
    then_adds _ _ _ _ _ _ _ _ _ c.in_ok-add.ensures.ok (rw named at c.add-2.ensures.ok)

pub returns-clause-err : goal.returns-clause-err
returns-clause-err g c =
    let named : c.bytes.result.now ≡ c.args.name.now = c.bytes.ensures.value in
    then_stops _ _ _ _ _ _ _ _ c.in_ok-add.ensures.ok (rw named at c.add-2.ensures.err)
