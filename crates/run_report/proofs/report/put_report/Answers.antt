-- The goals of `report::put_report` that the search leaves.
use Rattle.stream_io.proofs.Puttings.{on_err}
use Rattle.run_report.proofs.Puttings.{part_before, then_part}
use Rattle.run_report.proofs.report.put_report.Goals as goal

pub returns-in_err-put_status-clause-err : goal.returns-in_err-put_status-clause-err
returns-in_err-put_status-clause-err g c = on_err _ (part_before _ _ _ _ c.in_err-put_status.ensures.err)

pub returns-clause-err : goal.returns-clause-err
returns-clause-err g c = then_part _ _ _ _ _ _ c.in_ok-put_status.ensures.ok c.put_run.ensures.err
