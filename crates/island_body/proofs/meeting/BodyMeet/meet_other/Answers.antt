-- The goals of `Body::meet_other` that the search leaves.
use Rattle.std.proofs.Common.{refl}
use Rattle.island_body.proofs.Acting.{at_index}
use Rattle.island_body.proofs.Joining.{out_only, in_only, they_meet}
use Rattle.island_body.proofs.meeting.BodyMeet.meet_other.Goals as goal

pub returns-clause-met : goal.returns-clause-met
returns-clause-met g c =
    let a = c.args.self.now in
    let b = c.args.other.now in
    let x = c.index_mut.result.now in
    let o = c.index_mut-2.result.now in
    let m = c.in_ok-waits.ensures in
    let at_in = at_index b.ins.items c.args.inp x c.requires.inp_there c.index_mut.ensures.value in
    let at_out = at_index a.outs.items c.args.out o c.requires.out_there c.index_mut-2.ensures.value in
    they_meet a b _ _ c.args.out c.args.inp o (record { wire = o.wire; lane = c.meet.new.out }) x (record { wire = x.wire; boundary = c.meet.new.self }) c.in_ok-waits.waits at_out at_in refl refl
    (out_only a _ c.args.out o _ at_out (record { wire = refl; lane = m.out }) refl refl refl refl refl refl)
    (in_only b _ c.args.inp x _ at_in (record { wire = refl; lane = m.lane; given_is = m.given.0; waits_is = m.given.1; over_is = m.given.2; state_is = m.given.3; keep_is = m.given.4 }) refl refl refl refl refl refl)
    m.history m.waits m.told
