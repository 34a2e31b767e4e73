-- The goals of `trace::add_moves` that the search leaves.
use Rattle.plan_reader.specs.Text.{move_text}
use Rattle.stream_io.proofs.Puttings.{on_err}
use Rattle.run_report.proofs.Tracing.{gathers_part, gathers_stop_part}
use Rattle.run_report.proofs.trace.add_moves.Goals as goal

pub loop-m-preserved : goal.loop-m-preserved
loop-m-preserved g c = gathers_part move_text _ _ _ _ _ _ _ _ c.loop-m-test.true c.loop-m.invariant _ c.in_ok-add_move.ensures.ok

pub returns-in_err-add_move-clause-err : goal.returns-in_err-add_move-clause-err
returns-in_err-add_move-clause-err g c = on_err _ (gathers_stop_part move_text _ _ _ _ _ _ _ _ c.loop-m-test.true c.loop-m.invariant c.in_err-add_move.ensures.err)
