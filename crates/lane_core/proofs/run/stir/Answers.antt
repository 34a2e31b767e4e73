-- The goals of `run::stir` that the search leaves.
use Rattle.std.proofs.Common.{◌≡◌, false, subst, sym, arith}
use Rattle.lane_core.specs.Bodies.{AllOf}
use Rattle.lane_core.specs.Crossings.{AtRest, QuietBelow}
use Rattle.lane_core.proofs.Each.{each_on, broke_after, ok_then, if_then, err_then}
use Rattle.lane_core.proofs.Lanes.{at_rest}
use Rattle.lane_core.proofs.run.stir.Goals as goal

pub returns-clause-goes : goal.returns-clause-goes
returns-clause-goes g c = let t = g.B.Turning in ok_then c.stir_rings.result (λ h. each_on t.goes t.goes t.goes g.met.B.Turning.goes_on c.args.bodies.now c.stir_lanes.new.bodies c.stir_rings.new.bodies c.in_ok-used.ensures.goes h) c.stir_rings.ensures.goes

pub returns-clause-none : goal.returns-clause-none
returns-clause-none g c =
    let t = g.B.Turning in
    let zero_is : c.in_ok-used.used ≡ 0 = let n = c.if-used-gt0.false in omega (arith, n) in
    let quiet = c.in_ok-used.ensures.none zero_is in
    if_then c.stir_rings.result
    (λ used. used ≡ 0 → (c.stir_rings.new.bodies ≡ c.stir_lanes.new.bodies) × AllOf (λ b. t.pending b ≡ false) c.stir_lanes.new.bodies)
    (λ used. used ≡ 0 → AtRest t.pending t.joined c.stir_rings.new.bodies c.args.lanes.now)
    (λ n h z. let p = h z in subst (λ bs. AtRest t.pending t.joined bs c.args.lanes.now) (sym p.0) (at_rest t.pending t.joined c.stir_lanes.new.bodies c.args.lanes.now p.1 quiet)) c.stir_rings.ensures.none

pub returns-clause-broke : goal.returns-clause-broke
returns-clause-broke g c = let t = g.B.Turning in err_then c.stir_rings.result (λ h. broke_after t.keeps t.goes t.breaks g.met.B.Turning.goes_on g.met.B.Turning.goes_breaks c.args.bodies.now c.stir_lanes.new.bodies c.stir_rings.new.bodies c.in_ok-used.ensures.goes h) c.stir_rings.ensures.broke
