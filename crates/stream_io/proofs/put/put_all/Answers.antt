use Rattle.std.proofs.Common.{◌<◌, length, arith}
use Rattle.stream_io.proofs.Puttings.{puts_on, puts_stop, on_err}
use Rattle.stream_io.proofs.put.put_all.Goals as goal

pub loop-done-preserved : goal.loop-done-preserved
loop-done-preserved g c =
    let e = c.in_ok-done.ensures in
    record {
      within = omega (arith, e.fits);
      sofar = puts_on _ _ _ _ _ _ _ c.split_at.ensures.back c.loop-done.invariant.sofar e.appends e.no_fault e.name;
    }

pub returns-in_err-done-clause-err : goal.returns-in_err-done-clause-err
returns-in_err-done-clause-err g c =
    let e = c.in_err-done.ensures in
    let inside : c.loop-done.done < length c.args.piece.now = omega arith in
    on_err _ (puts_stop _ _ _ _ _ inside c.loop-done.invariant.sofar e.failed e.fault e.never_falls e.name)
