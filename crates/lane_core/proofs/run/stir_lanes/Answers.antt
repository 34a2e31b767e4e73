-- The goals of `run::stir_lanes` that the search leaves.
use Rattle.std.proofs.Common.{◌≡◌, ◌+◌, arith, get_or}
use Rattle.std.specs.List.{sum_by}
use Rattle.std.proofs.lemmas.Option.{slice_get-get_or}
use Rattle.lane_core.proofs.Each.{each_on, all_along, sum_same, at_place, at_count, never, broke_after, ok_then, if_then, err_then}
use Rattle.lane_core.proofs.Lanes.{within_at, quiet_more, item_stirs, demand_stirs}
use Rattle.lane_core.specs.declared.crossing.Crossing.{Crossing}
use Rattle.lane_core.proofs.run.stir_lanes.Goals as goal

abbrev none_there : Crossing
none_there = record { from = 0; out = 0; to = 0; inp = 0 }

pub join-waits-requires : goal.join-waits-requires
join-waits-requires g c = record {
  within = within_at g.B.Meet.may_meet g.B.Turning.goes g.met.B.Turning.meet_goes_out g.met.B.Turning.meet_goes_inp c.args.bodies.now c.loop-n.bodies c.args.lanes.now c.loop-n.n none_there c.loop-n.invariant.goes c.requires.lanes c.loop-n-test.true;
}

pub turn_at-requires-clause-there : goal.turn_at-requires-clause-there
turn_at-requires-clause-there g c = let l = (within_at g.B.Meet.may_meet g.B.Turning.goes g.met.B.Turning.meet_goes_out g.met.B.Turning.meet_goes_inp c.args.bodies.now c.loop-n.bodies c.args.lanes.now c.loop-n.n none_there c.loop-n.invariant.goes c.requires.lanes c.loop-n-test.true).to_there in let e = c.join-waits.ensures.stands.count in omega (arith, l, e)

pub turn_at-requires-clause-keeps : goal.turn_at-requires-clause-keeps
turn_at-requires-clause-keeps g c = let t = g.B.Turning in all_along t.stands t.keeps g.met.B.Turning.keeps_stands c.args.bodies.now c.join-waits.new.bodies (each_on t.stands t.stands t.stands g.met.B.Turning.stands_on _ _ _ c.loop-n.invariant.stands c.join-waits.ensures.stands) c.requires.keeps

pub turn_at-requires-clause-few : goal.turn_at-requires-clause-few
turn_at-requires-clause-few g c = let t = g.B.Turning in let s = each_on t.stands t.stands t.stands g.met.B.Turning.stands_on _ _ _ c.loop-n.invariant.stands c.join-waits.ensures.stands in let e = sum_same t.spent c.args.bodies.now c.join-waits.new.bodies s.count (λ k a b ea eb. g.met.B.Turning.spent_stands a b (s.each k a b ea eb)) in let f = c.requires.few in omega (arith, e, f)

pub returns-then-waits-clause-goes : goal.returns-then-waits-clause-goes
returns-then-waits-clause-goes g c = let t = g.B.Turning in ok_then c.turn_at.result (λ h. each_on t.goes t.goes t.goes g.met.B.Turning.goes_on c.args.bodies.now c.join-waits.new.bodies c.turn_at.new.bodies (each_on t.goes t.goes t.goes g.met.B.Turning.goes_on _ _ _ c.loop-n.invariant.goes c.join-waits.ensures.goes) h) c.turn_at.ensures.goes

pub returns-then-waits-clause-spent : goal.returns-then-waits-clause-spent
returns-then-waits-clause-spent g c =
    let t = g.B.Turning in
    let s = each_on t.stands t.stands t.stands g.met.B.Turning.stands_on c.args.bodies.now _ c.join-waits.new.bodies c.loop-n.invariant.stands c.join-waits.ensures.stands in
    let e : sum_by t.spent c.join-waits.new.bodies ≡ sum_by t.spent c.args.bodies.now = sum_same t.spent c.args.bodies.now c.join-waits.new.bodies s.count (λ k a b ea eb. g.met.B.Turning.spent_stands a b (s.each k a b ea eb)) in
    if_then c.turn_at.result (λ used. sum_by t.spent c.turn_at.new.bodies ≡ sum_by t.spent c.join-waits.new.bodies + used) (λ used. sum_by t.spent c.turn_at.new.bodies ≡ sum_by t.spent c.args.bodies.now + used) (λ n h. omega (arith, h, e)) c.turn_at.ensures.spent

pub returns-then-waits-clause-none : goal.returns-then-waits-clause-none
returns-then-waits-clause-none g c =
    let t = g.B.Turning in
    let lane : Crossing = get_or c.args.lanes.now c.loop-n.n none_there in
    let w = within_at g.B.Meet.may_meet t.goes g.met.B.Turning.meet_goes_out g.met.B.Turning.meet_goes_inp c.args.bodies.now c.loop-n.bodies c.args.lanes.now c.loop-n.n none_there c.loop-n.invariant.goes c.requires.lanes c.loop-n-test.true in
    let x = at_count c.loop-n.bodies c.join-waits.new.bodies lane.to (at_place c.loop-n.bodies lane.to w.to_there).0 c.join-waits.ensures.stands.count (at_place c.loop-n.bodies lane.to w.to_there).1 in
    never t.goes t.idle c.turn_at.result c.args.limit c.join-waits.new.bodies c.turn_at.new.bodies lane.to x.0 _ c.requires.some x.1
    (λ b eb go idle. item_stirs g.B.Meet.may_meet g.B.Meet.met t.goes t.idle g.met.B.Turning.idle_item c.loop-n.bodies c.join-waits.new.bodies c.turn_at.new.bodies lane c.join-waits.result w c.join-waits.ensures.stands.count c.join-waits.ensures.met c.if-waits.true x.0 b x.1 eb go idle)
    c.turn_at.ensures.idle

pub returns-then-waits-clause-broke : goal.returns-then-waits-clause-broke
returns-then-waits-clause-broke g c = let t = g.B.Turning in err_then c.turn_at.result (λ h. broke_after t.keeps t.goes t.breaks g.met.B.Turning.goes_on g.met.B.Turning.goes_breaks c.args.bodies.now c.join-waits.new.bodies c.turn_at.new.bodies (each_on t.goes t.goes t.goes g.met.B.Turning.goes_on _ _ _ c.loop-n.invariant.goes c.join-waits.ensures.goes) h) c.turn_at.ensures.broke

pub turn_at-requires-then-waits-2-clause-there : goal.turn_at-requires-then-waits-2-clause-there
turn_at-requires-then-waits-2-clause-there g c = let l = (within_at g.B.Meet.may_meet g.B.Turning.goes g.met.B.Turning.meet_goes_out g.met.B.Turning.meet_goes_inp c.args.bodies.now c.loop-n.bodies c.args.lanes.now c.loop-n.n none_there c.loop-n.invariant.goes c.requires.lanes c.loop-n-test.true).from_there in let e = c.join-waits.ensures.stands.count in omega (arith, l, e)

pub turn_at-requires-then-waits-2-clause-keeps : goal.turn_at-requires-then-waits-2-clause-keeps
turn_at-requires-then-waits-2-clause-keeps g c = let t = g.B.Turning in all_along t.stands t.keeps g.met.B.Turning.keeps_stands c.args.bodies.now c.join-waits.new.bodies (each_on t.stands t.stands t.stands g.met.B.Turning.stands_on _ _ _ c.loop-n.invariant.stands c.join-waits.ensures.stands) c.requires.keeps

pub turn_at-requires-then-waits-2-clause-few : goal.turn_at-requires-then-waits-2-clause-few
turn_at-requires-then-waits-2-clause-few g c = let t = g.B.Turning in let s = each_on t.stands t.stands t.stands g.met.B.Turning.stands_on _ _ _ c.loop-n.invariant.stands c.join-waits.ensures.stands in let e = sum_same t.spent c.args.bodies.now c.join-waits.new.bodies s.count (λ k a b ea eb. g.met.B.Turning.spent_stands a b (s.each k a b ea eb)) in let f = c.requires.few in omega (arith, e, f)

pub returns-then-waits-2-clause-goes : goal.returns-then-waits-2-clause-goes
returns-then-waits-2-clause-goes g c = let t = g.B.Turning in ok_then c.turn_at-then-waits-2.result (λ h. each_on t.goes t.goes t.goes g.met.B.Turning.goes_on c.args.bodies.now c.join-waits.new.bodies c.turn_at-then-waits-2.new.bodies (each_on t.goes t.goes t.goes g.met.B.Turning.goes_on _ _ _ c.loop-n.invariant.goes c.join-waits.ensures.goes) h) c.turn_at-then-waits-2.ensures.goes

pub returns-then-waits-2-clause-spent : goal.returns-then-waits-2-clause-spent
returns-then-waits-2-clause-spent g c =
    let t = g.B.Turning in
    let s = each_on t.stands t.stands t.stands g.met.B.Turning.stands_on c.args.bodies.now _ c.join-waits.new.bodies c.loop-n.invariant.stands c.join-waits.ensures.stands in
    let e : sum_by t.spent c.join-waits.new.bodies ≡ sum_by t.spent c.args.bodies.now = sum_same t.spent c.args.bodies.now c.join-waits.new.bodies s.count (λ k a b ea eb. g.met.B.Turning.spent_stands a b (s.each k a b ea eb)) in
    if_then c.turn_at-then-waits-2.result (λ used. sum_by t.spent c.turn_at-then-waits-2.new.bodies ≡ sum_by t.spent c.join-waits.new.bodies + used) (λ used. sum_by t.spent c.turn_at-then-waits-2.new.bodies ≡ sum_by t.spent c.args.bodies.now + used) (λ n h. omega (arith, h, e)) c.turn_at-then-waits-2.ensures.spent

pub returns-then-waits-2-clause-none : goal.returns-then-waits-2-clause-none
returns-then-waits-2-clause-none g c =
    let t = g.B.Turning in
    let lane : Crossing = get_or c.args.lanes.now c.loop-n.n none_there in
    let w = within_at g.B.Meet.may_meet t.goes g.met.B.Turning.meet_goes_out g.met.B.Turning.meet_goes_inp c.args.bodies.now c.loop-n.bodies c.args.lanes.now c.loop-n.n none_there c.loop-n.invariant.goes c.requires.lanes c.loop-n-test.true in
    let x = at_count c.loop-n.bodies c.join-waits.new.bodies lane.from (at_place c.loop-n.bodies lane.from w.from_there).0 c.join-waits.ensures.stands.count (at_place c.loop-n.bodies lane.from w.from_there).1 in
    never t.goes t.idle c.turn_at-then-waits-2.result c.args.limit c.join-waits.new.bodies c.turn_at-then-waits-2.new.bodies lane.from x.0 _ c.requires.some x.1
    (λ b eb go idle. demand_stirs g.B.Meet.may_meet g.B.Meet.met t.goes t.idle g.met.B.Turning.idle_demand c.loop-n.bodies c.join-waits.new.bodies c.turn_at-then-waits-2.new.bodies lane c.join-waits.result w c.join-waits.ensures.stands.count c.join-waits.ensures.met c.if-waits-2.true x.0 b x.1 eb go idle)
    c.turn_at-then-waits-2.ensures.idle

pub returns-then-waits-2-clause-broke : goal.returns-then-waits-2-clause-broke
returns-then-waits-2-clause-broke g c = let t = g.B.Turning in err_then c.turn_at-then-waits-2.result (λ h. broke_after t.keeps t.goes t.breaks g.met.B.Turning.goes_on g.met.B.Turning.goes_breaks c.args.bodies.now c.join-waits.new.bodies c.turn_at-then-waits-2.new.bodies (each_on t.goes t.goes t.goes g.met.B.Turning.goes_on _ _ _ c.loop-n.invariant.goes c.join-waits.ensures.goes) h) c.turn_at-then-waits-2.ensures.broke

pub loop-n-preserved : goal.loop-n-preserved
loop-n-preserved g c =
    let t = g.B.Turning in
    let there = slice_get-get_or c.args.lanes.now c.loop-n.n none_there c.loop-n-test.true in
    record {
      stands = each_on t.stands t.stands t.stands g.met.B.Turning.stands_on _ _ _ c.loop-n.invariant.stands c.join-waits.ensures.stands;
      goes = each_on t.goes t.goes t.goes g.met.B.Turning.goes_on _ _ _ c.loop-n.invariant.goes c.join-waits.ensures.goes;
      quiet = quiet_more t.joined t.stands g.met.B.Turning.joined_out g.met.B.Turning.joined_inp c.loop-n.bodies c.join-waits.new.bodies c.args.lanes.now c.loop-n.n _ c.join-waits.result there c.join-waits.ensures.stands c.loop-n.invariant.quiet c.join-waits.ensures.joined c.if-waits.false c.if-waits-2.false;
    }

pub returns-clause-keeps : goal.returns-clause-keeps
returns-clause-keeps g c = all_along g.B.Turning.stands g.B.Turning.keeps g.met.B.Turning.keeps_stands c.args.bodies.now c.loop-n.bodies c.loop-n.invariant.stands c.requires.keeps

pub returns-clause-spent : goal.returns-clause-spent
returns-clause-spent g c = let s = c.loop-n.invariant.stands in let e = sum_same g.B.Turning.spent c.args.bodies.now c.loop-n.bodies s.count (λ k a b ea eb. g.met.B.Turning.spent_stands a b (s.each k a b ea eb)) in omega (arith, e)
