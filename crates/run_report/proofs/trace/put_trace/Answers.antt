-- The goals of `trace::put_trace` that the search leaves.
use Rattle.run_report.proofs.Tracing.{then_stop}
use Rattle.run_report.proofs.trace.put_trace.Goals as goal

pub returns-clause-err : goal.returns-clause-err
returns-clause-err g c = then_stop _ _ _ _ _ _ (rw c.requires at c.in_ok-add_picks.ensures.ok) (rw c.deref.ensures.value at c.put_all.ensures.err)
