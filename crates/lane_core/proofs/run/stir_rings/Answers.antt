-- The goals of `run::stir_rings` that the search leaves.
use Rattle.std.proofs.Common.{refl, arith}
use Rattle.lane_core.proofs.Each.{never, at_place}
use Rattle.lane_core.proofs.Lanes.{none_pending}
use Rattle.lane_core.proofs.run.stir_rings.Goals as goal

pub returns-then-k-count-clause-none : goal.returns-then-k-count-clause-none
returns-then-k-count-clause-none g c =
    let x = at_place c.args.bodies.now c.first_pending-k.result c.if-k-count.true in
    never g.B.Turning.goes g.B.Turning.idle c.turn_at.result c.args.limit c.args.bodies.now c.turn_at.new.bodies c.first_pending-k.result x.0 _ c.requires.some x.1
    (λ b eb go idle. g.met.B.Turning.idle_event x.0 b (c.first_pending-k.ensures.event c.if-k-count.true x.0 x.1) idle) c.turn_at.ensures.idle

pub returns-clause-none : goal.returns-clause-none
returns-clause-none g c = λ z. (refl, none_pending g.B.Turning.pending c.args.bodies.now c.first_pending-k.result c.first_pending-k.ensures.before (λ l. let n = c.if-k-count.false in omega (arith, l, n)))
