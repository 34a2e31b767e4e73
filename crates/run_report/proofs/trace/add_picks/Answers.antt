-- The goals of `trace::add_picks` that the search leaves.
use Rattle.std.proofs.Common.{◌<◌, ◌≤◌, length, arith}
use Rattle.stream_io.proofs.Puttings.{on_err}
use Rattle.run_report.proofs.Tracing.{gathers_line, gathers_stop_line, gathers_none, over_either}
use Rattle.run_report.proofs.trace.add_picks.Goals as goal

pub loop-i-preserved : goal.loop-i-preserved
loop-i-preserved g c =
    let named : c.loop-i.i < length c.args.names.now = omega (arith, c.min-i-end.ensures, c.loop-i-test.true) in
    let chose : c.loop-i.i < length c.args.picks.now = omega (arith, c.min-i-end.ensures, c.loop-i-test.true) in
    gathers_line c.args.names.now c.args.picks.now c.loop-i.i _ _ _ _ _ _ _ c.index-names-i.is c.index-picks-i.is named chose c.loop-i.invariant c.add_pick.new.gathered.items c.in_ok-add_pick.ensures.ok

pub returns-in_err-add_pick-clause-err : goal.returns-in_err-add_pick-clause-err
returns-in_err-add_pick-clause-err g c =
    let named : c.loop-i.i < length c.args.names.now = omega (arith, c.min-i-end.ensures, c.loop-i-test.true) in
    let chose : c.loop-i.i < length c.args.picks.now = omega (arith, c.min-i-end.ensures, c.loop-i-test.true) in
    on_err _ (gathers_stop_line _ _ _ _ _ _ _ _ _ _ c.index-names-i.is c.index-picks-i.is named chose c.loop-i.invariant c.in_err-add_pick.ensures.err)

pub returns-clause-ok : goal.returns-clause-ok
returns-clause-ok g c = gathers_none _ _ _ _ _ (over_either c.args.names.now c.args.picks.now c.loop-i.i c.min-i-end.result c.min-i-end.ensures c.loop-i-test.false) c.loop-i.invariant
