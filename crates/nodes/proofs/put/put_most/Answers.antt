use Rattle.std.proofs.Common.{◌<◌, length, arith}
use Rattle.stream_io.proofs.Puttings.{puts_on}
use Rattle.nodes.proofs.Putting.{puts_short}
use Rattle.nodes.proofs.put.put_most.Goals as goal

pub loop-done-preserved : goal.loop-done-preserved
loop-done-preserved g c =
    let e = c.in-Ok.ensures in
    record {
      within = omega (arith, e.fits);
      sofar = puts_on _ _ _ _ _ _ _ c.split_at.ensures.back c.loop-done.invariant.sofar e.appends e.no_fault e.name;
    }

pub returns-in-Err-clause-some : goal.returns-in-Err-clause-some
returns-in-Err-clause-some g c = λ less.
    let e = c.in-Err.ensures in
    puts_short _ _ _ _ c.loop-done.invariant.sofar e.failed e.fault e.never_falls e.name
