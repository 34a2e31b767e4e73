use Rattle.lane_core.proofs.Each.{each_on, broke_after, on_err}
use Rattle.lane_core.proofs.run.waiting_turn.Goals as goal

pub returns-in_err-more-clause-broke : goal.returns-in_err-more-clause-broke
returns-in_err-more-clause-broke g c =
    let t = g.B.Turning in
    on_err c.from_residual-in_err-more.result (broke_after t.keeps t.goes t.breaks g.met.B.Turning.goes_on g.met.B.Turning.goes_breaks c.args.bodies.now c.turn_at.new.bodies c.quiet_rounds.new.bodies c.in_ok-used.ensures.goes c.in_err-more.ensures.broke)

pub returns-clause-goes : goal.returns-clause-goes
returns-clause-goes g c = let t = g.B.Turning in each_on t.goes t.goes t.goes g.met.B.Turning.goes_on _ _ _ c.in_ok-used.ensures.goes c.in_ok-more.ensures.goes
