use Rattle.stream_io.proofs.Puttings.{on_err}
use Rattle.run_report.proofs.Puttings.{leaves_next, leaves_stop_at}
use Rattle.run_report.proofs.put.put_parts.Goals as goal

pub loop-part-preserved : goal.loop-part-preserved
loop-part-preserved g c = leaves_next _ _ _ _ _ _ _ _ c.loop-part-test.true c.loop-part.invariant c.in_ok-put_all.ensures.ok

pub returns-in_err-put_all-clause-err : goal.returns-in_err-put_all-clause-err
returns-in_err-put_all-clause-err g c = on_err _ (leaves_stop_at _ _ _ _ _ _ _ _ c.loop-part-test.true c.loop-part.invariant c.in_err-put_all.ensures.err)
