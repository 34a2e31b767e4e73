-- The goals of `trace::add` that the search leaves.
use Rattle.run_report.proofs.Puttings.{then_part}
use Rattle.run_report.proofs.Tracing.{then_behind}
use Rattle.run_report.proofs.trace.add.Goals as goal

pub returns-in_ok-flush-clause-ok : goal.returns-in_ok-flush-clause-ok
returns-in_ok-flush-clause-ok g c = then_behind _ _ _ _ _ _ _ c.in_ok-flush.ensures.ok c.in_ok-flush.ensures.emptied c.put_all.ensures.ok

pub returns-in_ok-flush-clause-err : goal.returns-in_ok-flush-clause-err
returns-in_ok-flush-clause-err g c = then_part _ _ _ _ _ _ c.in_ok-flush.ensures.ok c.put_all.ensures.err
