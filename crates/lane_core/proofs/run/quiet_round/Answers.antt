use Rattle.std.proofs.Common.{arith}
use Rattle.lane_core.proofs.Each.{each_on, broke_after, on_err}
use Rattle.lane_core.proofs.run.quiet_round.Goals as goal

pub returns-in_err-used-clause-broke : goal.returns-in_err-used-clause-broke
returns-in_err-used-clause-broke g c = on_err c.from_residual.result (broke_after g.B.Turning.keeps g.B.Turning.goes g.B.Turning.breaks g.met.B.Turning.goes_on g.met.B.Turning.goes_breaks c.args.bodies.now c.loop-k.bodies c.quiet_turn.new.bodies c.loop-k.invariant.goes c.in_err-used.ensures.broke)

pub loop-k-preserved : goal.loop-k-preserved
loop-k-preserved g c =
    let t = g.B.Turning in
    let i = c.loop-k.invariant in
    let e = c.in_ok-used.ensures in
    record {
      keeps = e.keeps;
      goes = each_on t.goes t.goes t.goes g.met.B.Turning.goes_on _ _ _ i.goes e.goes;
      spent = let a = e.spent in let b = i.spent in omega (arith, a, b);
      within = let a = e.within in let d = i.within in omega (arith, a, d);
    }
