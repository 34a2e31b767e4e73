-- The goals of `body::Body::look_in` that the search leaves.
use Rattle.std.proofs.Common.{inl, inr, refl, ap, ◌∙◌, arith, length-append}
use Rattle.std.specs.Prelude.{length}
use Rattle.fused_net.proofs.Reading.{get_set_other}
use Rattle.island_body.proofs.Lists.{taken_set}
use Rattle.island_body.proofs.Standing.{goes_here}
use Rattle.island_body.proofs.Acting.{at_index, in_looked, in_goes, looked_but, looked_none, looked_behind, took_none_here}
use Rattle.island_body.proofs.Looking.{only_in_here, left_none_here}
use Rattle.island_body.proofs.Telling.{wakes_looked_in}
use Rattle.island_body.proofs.body.Body.look_in.Goals as goal

pub returns-clause-stands : goal.returns-clause-stands
returns-clause-stands g c =
    let at = at_index c.args.self.now.ins.items c.args.k c.index_mut.result.now c.requires.within c.index_mut.ensures.value in
    in_looked c.args.self.now _ c.args.k c.index_mut.result.now c.look.new.self at c.requires.stands refl c.look.ensures.wire.0 c.look.ensures.given.0 c.look.ensures.given.1 refl refl refl

pub returns-clause-served : goal.returns-clause-served
returns-clause-served g c =
    let b = c.args.self.now in
    let at = at_index b.ins.items c.args.k c.index_mut.result.now c.requires.within c.index_mut.ensures.value in
    looked_but b.island b.ins.items b.outs.items c.args.k c.index_mut.result.now c.look.new.self at c.requires.served

pub returns-clause-still : goal.returns-clause-still
returns-clause-still g c e =
    let b = c.args.self.now in
    let at = at_index b.ins.items c.args.k c.index_mut.result.now c.requires.within c.index_mut.ensures.value in
    looked_none b.island b.ins.items b.outs.items c.args.k c.index_mut.result.now c.look.new.self at c.look.ensures.wire.0 c.look.ensures.given.0 c.look.ensures.given.1 (c.look.ensures.none e).0 (c.look.ensures.still e) c.requires.served

pub returns-clause-behind : goal.returns-clause-behind
returns-clause-behind g c e two =
    let b = c.args.self.now in
    let at = at_index b.ins.items c.args.k c.index_mut.result.now c.requires.within c.index_mut.ensures.value in
    looked_behind b.island b.ins.items b.outs.items c.args.k c.index_mut.result.now c.look.new.self at c.look.ensures.wire.0 c.look.ensures.given.0 c.look.ensures.given.1 (c.look.ensures.behind e) two c.requires.served

pub returns-clause-goes : goal.returns-clause-goes
returns-clause-goes g c =
    let b = c.args.self.now in
    let at = at_index b.ins.items c.args.k c.index_mut.result.now c.requires.within c.index_mut.ensures.value in
    in_goes b _ c.args.k c.index_mut.result.now c.look.new.self at (goes_here b.island) c.look.ensures.wire.0 c.look.ensures.wire.1 refl refl refl

pub returns-clause-took : goal.returns-clause-took
returns-clause-took g c e =
    let b = c.args.self.now in
    let at = at_index b.ins.items c.args.k c.index_mut.result.now c.requires.within c.index_mut.ensures.value in
    let t = (c.look.ensures.took e).1 in
    taken_set b.ins.items c.args.k c.index_mut.result.now c.look.new.self 1 at (ap length t.1.0 ∙ length-append _ _)

pub returns-clause-none : goal.returns-clause-none
returns-clause-none g c e =
    let b = c.args.self.now in
    let at = at_index b.ins.items c.args.k c.index_mut.result.now c.requires.within c.index_mut.ensures.value in
    let n = c.look.ensures.none e in
    let same = ap length n.0 in
    let t = taken_set b.ins.items c.args.k c.index_mut.result.now c.look.new.self 0 at (omega (arith, same)) in (
      record {
        island = refl;
        outs = refl;
        here = took_none_here b.ins.items c.args.k c.index_mut.result.now c.look.new.self at (record { taken_is = n.0; why = n.1 });
        others = λ j ne. get_set_other b.ins.items c.args.k j c.look.new.self ne;
      },
      omega (arith, t),
    )

pub returns-clause-only : goal.returns-clause-only
returns-clause-only g c =
    let b = c.args.self.now in
    let at = at_index b.ins.items c.args.k c.index_mut.result.now c.requires.within c.index_mut.ensures.value in
    only_in_here b _ c.args.k c.index_mut.result.now c.look.new.self at c.look.ensures.told refl refl

pub returns-clause-last : goal.returns-clause-last
returns-clause-last g c e =
    let b = c.args.self.now in
    let at = at_index b.ins.items c.args.k c.index_mut.result.now c.requires.within c.index_mut.ensures.value in
    left_none_here b.ins.items c.args.k c.index_mut.result.now c.look.new.self at (record {
      why = elim (c.look.ensures.none e).1 [
        | inl over ↦ inl (c.look.ensures.over e ∙ over)
        | inr found ↦ inr found
      ];
    })

pub returns-clause-wakes : goal.returns-clause-wakes
returns-clause-wakes g c =
    let b = c.args.self.now in
    let w = c.look.ensures.wire in
    let at = at_index b.ins.items c.args.k c.index_mut.result.now c.requires.within c.index_mut.ensures.value in
    wakes_looked_in b _ c.args.k c.index_mut.result.now c.look.new.self at refl refl refl w.3 w.4
