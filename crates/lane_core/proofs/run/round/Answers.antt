use Rattle.lane_core.proofs.Each.{each_on, broke_after, on_err}
use Rattle.lane_core.proofs.run.round.Goals as goal

pub returns-in_err-waited-clause-broke : goal.returns-in_err-waited-clause-broke
returns-in_err-waited-clause-broke g c =
    let t = g.B.Turning in
    on_err c.from_residual-in_err-waited.result (broke_after t.keeps t.goes t.breaks g.met.B.Turning.goes_on g.met.B.Turning.goes_breaks c.args.bodies.now c.quiet_rounds.new.bodies c.waiting_round.new.bodies c.in_ok-quiet.ensures.goes c.in_err-waited.ensures.broke)

pub returns-clause-goes : goal.returns-clause-goes
returns-clause-goes g c = let t = g.B.Turning in each_on t.goes t.goes t.goes g.met.B.Turning.goes_on _ _ _ c.in_ok-quiet.ensures.goes c.in_ok-waited.ensures.goes
