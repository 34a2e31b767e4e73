-- The goals of `run::run_on` that the search leaves.
use Rattle.std.proofs.Common.{arith}
use Rattle.lane_core.proofs.Each.{each_on, broke_after, on_err}
use Rattle.lane_core.proofs.Lanes.{crossings_each}
use Rattle.lane_core.proofs.run.run_on.Goals as goal

pub loop-used-init : goal.loop-used-init
loop-used-init g c =
    let e = c.in_ok-used.ensures in
    record {
      keeps = e.keeps;
      goes = e.goes;
      spent = let a = e.spent in let b = c.requires.spent in omega (arith, a, b);
      within = let a = e.within in let b = c.requires.few in omega (arith, a, b.0);
      lanes = crossings_each g.B.Meet.may_meet g.B.Turning.goes g.met.B.Turning.meet_goes_out g.met.B.Turning.meet_goes_inp _ _ c.args.lanes.now e.goes c.requires.lanes;
    }

pub returns-in_err-stirred-clause-broke : goal.returns-in_err-stirred-clause-broke
returns-in_err-stirred-clause-broke g c =
    let t = g.B.Turning in
    on_err c.from_residual-in_err-stirred.result (broke_after t.keeps t.goes t.breaks g.met.B.Turning.goes_on g.met.B.Turning.goes_breaks c.args.bodies.now c.loop-used.bodies c.stir.new.bodies c.loop-used.invariant.goes c.in_err-stirred.ensures.broke)

pub returns-then-stirred-eq0-clause-goes : goal.returns-then-stirred-eq0-clause-goes
returns-then-stirred-eq0-clause-goes g c = let t = g.B.Turning in each_on t.goes t.goes t.goes g.met.B.Turning.goes_on _ _ _ c.loop-used.invariant.goes c.in_ok-stirred.ensures.goes

pub returns-in_err-used-2-clause-broke : goal.returns-in_err-used-2-clause-broke
returns-in_err-used-2-clause-broke g c =
    let t = g.B.Turning in
    on_err c.from_residual-in_err-used-2.result (broke_after t.keeps t.goes t.breaks g.met.B.Turning.goes_on g.met.B.Turning.goes_breaks c.args.bodies.now c.stir.new.bodies c.rounds-in-loop-used.new.bodies (each_on t.goes t.goes t.goes g.met.B.Turning.goes_on _ _ _ c.loop-used.invariant.goes c.in_ok-stirred.ensures.goes) c.in_err-used-2.ensures.broke)

pub loop-used-preserved : goal.loop-used-preserved
loop-used-preserved g c =
    let t = g.B.Turning in
    let i = c.loop-used.invariant in
    let s = c.in_ok-stirred.ensures in
    let e = c.in_ok-used-2.ensures in
    let goes = each_on t.goes t.goes t.goes g.met.B.Turning.goes_on _ _ _ s.goes e.goes in
    record {
      keeps = e.keeps;
      goes = each_on t.goes t.goes t.goes g.met.B.Turning.goes_on _ _ _ i.goes goes;
      spent = let a = e.spent in let b = s.spent in let d = i.spent in omega (arith, a, b, d);
      within = let a = e.within in let b = s.within in let d = i.within in let p = c.portion.ensures.within in omega (arith, a, b, d, p);
      lanes = crossings_each g.B.Meet.may_meet t.goes g.met.B.Turning.meet_goes_out g.met.B.Turning.meet_goes_inp _ _ c.args.lanes.now goes i.lanes;
    }

pub returns-clause-goes : goal.returns-clause-goes
returns-clause-goes g c = let t = g.B.Turning in each_on t.goes t.goes t.goes g.met.B.Turning.goes_on _ _ _ c.loop-used.invariant.goes c.settle_whole.ensures.goes
