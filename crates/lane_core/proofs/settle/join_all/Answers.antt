use Rattle.std.proofs.Common.{arith}
use Rattle.std.proofs.lemmas.Option.{slice_get-get_or}
use Rattle.lane_core.proofs.Each.{each_on}
use Rattle.lane_core.proofs.Lanes.{within_at, lanes_more, event_more}
use Rattle.lane_core.proofs.settle.join_all.Goals as goal

pub join-waits-requires : goal.join-waits-requires
join-waits-requires g c = record {
  within = within_at g.B.Meet.may_meet g.B.Turning.goes g.met.B.Turning.meet_goes_out g.met.B.Turning.meet_goes_inp c.args.bodies.now c.loop-n.bodies c.args.lanes.now c.loop-n.n _ c.loop-n.invariant.goes c.requires.lanes c.loop-n-test.true;
}

pub loop-n-preserved : goal.loop-n-preserved
loop-n-preserved g c =
    let t = g.B.Turning in
    let i = c.loop-n.invariant in
    let j = c.join-waits.ensures in
    let f = c.least-first.ensures in
    let there = slice_get-get_or c.args.lanes.now c.loop-n.n _ c.loop-n-test.true in
    record {
      stands = each_on t.stands t.stands t.stands g.met.B.Turning.stands_on _ _ _ i.stands j.stands;
      goes = each_on t.goes t.goes t.goes g.met.B.Turning.goes_on _ _ _ i.goes j.goes;
      within = let a = f.first in let b = i.within in let n = j.stands.count in omega (arith, a, b, n);
      before = lanes_more t.joined t.stands g.met.B.Turning.joined_out g.met.B.Turning.joined_inp c.loop-n.bodies c.join-waits.new.bodies c.args.lanes.now c.loop-n.n c.loop-n.first c.least-first.result _ c.join-waits.result there j.stands i.before j.joined f.first f.item f.demand;
      event = event_more t.joined t.stands g.met.B.Turning.joined_out g.met.B.Turning.joined_inp c.loop-n.bodies c.join-waits.new.bodies c.args.lanes.now c.loop-n.n c.loop-n.first c.least-first.result _ c.join-waits.result there j.stands i.event j.joined f.one;
    }
