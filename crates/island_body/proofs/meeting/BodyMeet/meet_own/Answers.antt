-- The goals of `Body::meet_own` that the search leaves.
use Rattle.std.proofs.Common.{refl}
use Rattle.island_body.proofs.Acting.{at_index}
use Rattle.island_body.proofs.Joining.{both_only, they_meet}
use Rattle.island_body.proofs.meeting.BodyMeet.meet_own.Goals as goal

pub returns-clause-met : goal.returns-clause-met
returns-clause-met g c =
    let b = c.args.self.now in
    let x = c.index_mut.result.now in
    let o = c.index_mut-2.result.now in
    let m = c.in_ok-waits.ensures in
    let at_in = at_index b.ins.items c.args.inp x c.requires.inp_there c.index_mut.ensures.value in
    let at_out = at_index b.outs.items c.args.out o c.requires.out_there c.index_mut-2.ensures.value in
    let both = both_only b _ c.args.out c.args.inp o _ x _ at_out at_in (record { wire = refl; lane = m.out }) (record { wire = refl; lane = m.lane; given_is = m.given.0; waits_is = m.given.1; over_is = m.given.2; state_is = m.given.3; keep_is = m.given.4 }) refl refl refl refl refl refl in
    they_meet b b _ _ c.args.out c.args.inp o (record { wire = o.wire; lane = c.meet.new.out }) x (record { wire = x.wire; boundary = c.meet.new.self }) c.in_ok-waits.waits at_out at_in refl refl both both m.history m.waits m.told
