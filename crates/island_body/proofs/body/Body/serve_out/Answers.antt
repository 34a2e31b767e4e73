-- The goals of `body::Body::serve_out` that the search leaves.
use Rattle.std.proofs.Common.{refl, arith}
use Rattle.interpreter.specs.Boundary.{way_out}
use Rattle.island_body.specs.Beside.{out_node}
use Rattle.island_body.proofs.Lists.{finds_set}
use Rattle.island_body.proofs.Standing.{goes_of, out_done}
use Rattle.island_body.proofs.Acting.{at_index, out_serves, out_goes}
use Rattle.island_body.proofs.Looking.{keeps_looks_out}
use Rattle.island_body.proofs.Telling.{wakes_out}
use Rattle.island_body.proofs.body.Body.serve_out.Goals as goal

pub serve-told-requires-clause-leaves : goal.serve-told-requires-clause-leaves
serve-told-requires-clause-leaves g c = (c.requires.stands.stand.outs_stand c.args.k c.index_mut.result.now (at_index c.args.self.now.outs.items c.args.k c.index_mut.result.now c.requires.within c.index_mut.ensures.value)).leaves

pub serve-told-requires-clause-serves : goal.serve-told-requires-clause-serves
serve-told-requires-clause-serves g c = (c.requires.stands.stand.outs_stand c.args.k c.index_mut.result.now (at_index c.args.self.now.outs.items c.args.k c.index_mut.result.now c.requires.within c.index_mut.ensures.value)).serves

pub serve-told-requires-clause-place : goal.serve-told-requires-clause-place
serve-told-requires-clause-place g c = c.requires.place c.index_mut.result.now (at_index c.args.self.now.outs.items c.args.k c.index_mut.result.now c.requires.within c.index_mut.ensures.value)

pub returns-clause-stands : goal.returns-clause-stands
returns-clause-stands g c =
    let at = at_index c.args.self.now.outs.items c.args.k c.index_mut.result.now c.requires.within c.index_mut.ensures.value in
    out_serves c.args.self.now _ c.args.k c.index_mut.result.now c.serve-told.new.self at c.requires.stands c.serve-told.ensures.beside c.serve-told.ensures.wire.0 c.serve-told.ensures.serves refl refl refl

pub returns-clause-served : goal.returns-clause-served
returns-clause-served g c n m h =
    let b = c.args.self.now in
    let at = at_index b.outs.items c.args.k c.index_mut.result.now c.requires.within c.index_mut.ensures.value in
    out_done b.island c.serve-told.new.island b.ins.items b.outs.items b.ways.items c.args.k c.index_mut.result.now c.serve-told.new.self at c.requires.stands.table c.requires.stands.apart c.serve-told.ensures.beside c.serve-told.ensures.wire.0 n m (h c.index_mut.result.now at) c.serve-told.ensures.served

pub returns-clause-goes : goal.returns-clause-goes
returns-clause-goes g c =
    let b = c.args.self.now in
    let x = c.index_mut.result.now in
    let at = at_index b.outs.items c.args.k x c.requires.within c.index_mut.ensures.value in
    out_goes b _ c.args.k x c.serve-told.new.self at (goes_of (way_out b.island x.wire) (out_node b.island x.wire) b.island c.serve-told.new.island c.serve-told.ensures.beside) c.serve-told.ensures.wire.0 c.serve-told.ensures.wire.1 refl refl refl

pub returns-clause-costs : goal.returns-clause-costs
returns-clause-costs g c =
    let b = c.args.self.now in
    let at = at_index b.outs.items c.args.k c.index_mut.result.now c.requires.within c.index_mut.ensures.value in
    let same = c.serve-told.ensures.wire.4 in
    let t = finds_set b.outs.items c.args.k c.index_mut.result.now c.serve-told.new.self 0 at (omega (arith, same)) in
    (refl, omega (arith, t))

pub returns-clause-looks : goal.returns-clause-looks
returns-clause-looks g c =
    let b = c.args.self.now in
    let t = c.serve-told.ensures in
    let at = at_index b.outs.items c.args.k c.index_mut.result.now c.requires.within c.index_mut.ensures.value in
    keeps_looks_out b _ c.args.k c.index_mut.result.now c.serve-told.new.self at (record { seen_is = t.wire.2; cancel_is = t.wire.3 }) refl refl

pub returns-clause-wakes : goal.returns-clause-wakes
returns-clause-wakes g c =
    let b = c.args.self.now in
    let t = c.serve-told.ensures in
    let p = c.tell_out.ensures in
    let at = at_index b.outs.items c.args.k c.index_mut.result.now c.requires.within c.index_mut.ensures.value in
    wakes_out b _ c.args.k c.index_mut.result.now c.serve-told.new.self c.serve-told.result at refl refl p.same.0 p.same.1 p.added t.sent t.same
