use Rattle.lane_core.proofs.Lanes.{met_each, met_joined, meets_at}
use Rattle.lane_core.proofs.settle.join.Goals as goal

pub returns-in-Ok-clause-stands : goal.returns-in-Ok-clause-stands
returns-in-Ok-clause-stands g c =
    let l = c.args.lane.now in
    met_each g.B.Meet.met g.B.Turning.stands g.met.B.Turning.stands_still l.from l.out l.to l.inp c.in-Ok.waits (λ a b d e m. let w = g.met.B.Turning.meets a b d e l.out l.inp c.in-Ok.waits m in (w.1, w.3)) _ _ c.requires.within.from_there c.requires.within.to_there c.in-Ok.ensures

pub returns-in-Ok-clause-goes : goal.returns-in-Ok-clause-goes
returns-in-Ok-clause-goes g c =
    let l = c.args.lane.now in
    met_each g.B.Meet.met g.B.Turning.goes g.met.B.Turning.goes_still l.from l.out l.to l.inp c.in-Ok.waits (λ a b d e m. let w = g.met.B.Turning.meets a b d e l.out l.inp c.in-Ok.waits m in (w.0, w.2)) _ _ c.requires.within.from_there c.requires.within.to_there c.in-Ok.ensures

pub returns-in-Ok-clause-joined : goal.returns-in-Ok-clause-joined
returns-in-Ok-clause-joined g c =
    let l = c.args.lane.now in
    met_joined g.B.Meet.met g.B.Turning.joined l c.in-Ok.waits (λ a b d e m. (g.met.B.Turning.meets a b d e l.out l.inp c.in-Ok.waits m).4) _ _ c.in-Ok.ensures

pub returns-in-Ok-clause-met : goal.returns-in-Ok-clause-met
returns-in-Ok-clause-met g c = meets_at g.B.Meet.met c.args.lane.now c.in-Ok.waits _ _ c.in-Ok.ensures
