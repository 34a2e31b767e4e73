use Rattle.run_report.specs.Report.{sink_line}
use Rattle.stream_io.proofs.Puttings.{on_err}
use Rattle.run_report.proofs.Puttings.{leaves_item, leaves_stop_item}
use Rattle.run_report.proofs.report.put_sinks.Goals as goal

pub loop-sink-preserved : goal.loop-sink-preserved
loop-sink-preserved g c = leaves_item sink_line _ _ _ _ _ _ _ c.sink-item.is c.loop-sink-test.true c.loop-sink.invariant c.in_ok-put_sink.ensures.ok

pub returns-in_err-put_sink-clause-err : goal.returns-in_err-put_sink-clause-err
returns-in_err-put_sink-clause-err g c = on_err _ (leaves_stop_item sink_line _ _ _ _ _ _ _ c.sink-item.is c.loop-sink-test.true c.loop-sink.invariant c.in_err-put_sink.ensures.err)
