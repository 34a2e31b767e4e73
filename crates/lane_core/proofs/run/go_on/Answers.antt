use Rattle.lane_core.proofs.Each.{broke_met}
use Rattle.lane_core.proofs.Lanes.{crossings_broke}
use Rattle.lane_core.proofs.run.go_on.Goals as goal

pub settle-requires : goal.settle-requires
settle-requires g c =
    let t = g.B.Turning in
    record { lanes = crossings_broke g.B.Meet.may_meet t.keeps t.goes t.breaks g.met.B.Turning.meet_goes_out g.met.B.Turning.meet_goes_inp g.met.B.Turning.meet_breaks_out g.met.B.Turning.meet_breaks_inp c.args.bodies.now c.run_on.new.bodies c.args.lanes.now c.in-Err.ensures.broke c.requires.lanes }

pub returns-in-Err-clause-broke : goal.returns-in-Err-clause-broke
returns-in-Err-clause-broke g c =
    let t = g.B.Turning in
    broke_met t.keeps t.goes t.stands t.breaks g.met.B.Turning.goes_on g.met.B.Turning.breaks_stands g.met.B.Turning.keeps_stands c.args.bodies.now c.run_on.new.bodies c.settle.new.bodies c.in-Err.ensures.broke c.settle.ensures.stands c.settle.ensures.goes
