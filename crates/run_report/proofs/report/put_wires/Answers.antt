-- The goals of `report::put_wires` that the search leaves.
use Rattle.stream_io.proofs.Puttings.{on_err}
use Rattle.run_report.proofs.Puttings.{leaves_wire, leaves_stop_wire}
use Rattle.run_report.proofs.report.put_wires.Goals as goal

pub loop-n-preserved : goal.loop-n-preserved
loop-n-preserved g c = leaves_wire _ _ _ _ _ _ _ c.loop-n-test.true c.loop-n.invariant c.in_ok-put_wire.ensures.ok

pub returns-in_err-put_wire-clause-err : goal.returns-in_err-put_wire-clause-err
returns-in_err-put_wire-clause-err g c = on_err _ (leaves_stop_wire _ _ _ _ _ _ _ c.loop-n-test.true c.loop-n.invariant c.in_err-put_wire.ensures.err)
