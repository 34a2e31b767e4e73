use Rattle.std.proofs.Common.{arith}
use Rattle.lane_core.proofs.Each.{each_on, broke_after, on_err}
use Rattle.lane_core.proofs.run.quiet_rounds.Goals as goal

pub returns-in_err-last-clause-broke : goal.returns-in_err-last-clause-broke
returns-in_err-last-clause-broke g c = on_err c.from_residual.result (broke_after g.B.Turning.keeps g.B.Turning.goes g.B.Turning.breaks g.met.B.Turning.goes_on g.met.B.Turning.goes_breaks c.args.bodies.now c.rounds.bodies c.quiet_round.new.bodies c.rounds.invariant.goes c.in_err-last.ensures.broke)

pub returns-then-last-eq0-clause-goes : goal.returns-then-last-eq0-clause-goes
returns-then-last-eq0-clause-goes g c = let t = g.B.Turning in each_on t.goes t.goes t.goes g.met.B.Turning.goes_on _ _ _ c.rounds.invariant.goes c.in_ok-last.ensures.goes

pub rounds-preserved : goal.rounds-preserved
rounds-preserved g c =
    let t = g.B.Turning in
    let i = c.rounds.invariant in
    let e = c.in_ok-last.ensures in
    record {
      keeps = e.keeps;
      goes = each_on t.goes t.goes t.goes g.met.B.Turning.goes_on _ _ _ i.goes e.goes;
      spent = let a = e.spent in let b = i.spent in omega (arith, a, b);
      within = let a = e.within in let d = i.within in omega (arith, a, d);
    }
