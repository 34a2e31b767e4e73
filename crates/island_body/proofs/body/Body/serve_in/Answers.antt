-- The goals of `body::Body::serve_in` that the search leaves.
use Rattle.std.proofs.Common.{refl, ap, arith}
use Rattle.std.specs.Prelude.{length}
use Rattle.interpreter.specs.Boundary.{way_in}
use Rattle.island_body.specs.Beside.{in_node}
use Rattle.island_body.proofs.Lists.{taken_set}
use Rattle.island_body.proofs.Standing.{goes_of, in_done}
use Rattle.island_body.proofs.Acting.{at_index, in_serves, in_goes}
use Rattle.island_body.proofs.Looking.{only_in_here, keeps_looks_in}
use Rattle.island_body.proofs.Telling.{wakes_in}
use Rattle.island_body.proofs.body.Body.serve_in.Goals as goal

pub serve-told-requires-clause-enters : goal.serve-told-requires-clause-enters
serve-told-requires-clause-enters g c = (c.requires.stands.stand.ins_stand c.args.k c.index_mut.result.now (at_index c.args.self.now.ins.items c.args.k c.index_mut.result.now c.requires.within c.index_mut.ensures.value)).enters

pub serve-told-requires-clause-feeds : goal.serve-told-requires-clause-feeds
serve-told-requires-clause-feeds g c = (c.requires.stands.stand.ins_stand c.args.k c.index_mut.result.now (at_index c.args.self.now.ins.items c.args.k c.index_mut.result.now c.requires.within c.index_mut.ensures.value)).feeds

pub serve-told-requires-clause-place : goal.serve-told-requires-clause-place
serve-told-requires-clause-place g c = c.requires.place c.index_mut.result.now (at_index c.args.self.now.ins.items c.args.k c.index_mut.result.now c.requires.within c.index_mut.ensures.value)

pub returns-clause-stands : goal.returns-clause-stands
returns-clause-stands g c =
    let at = at_index c.args.self.now.ins.items c.args.k c.index_mut.result.now c.requires.within c.index_mut.ensures.value in
    in_serves c.args.self.now _ c.args.k c.index_mut.result.now c.serve-told.new.self at c.requires.stands c.serve-told.ensures.beside c.serve-told.ensures.wire.0 c.serve-told.ensures.feeds refl refl refl

pub returns-clause-served : goal.returns-clause-served
returns-clause-served g c n m h =
    let b = c.args.self.now in
    let at = at_index b.ins.items c.args.k c.index_mut.result.now c.requires.within c.index_mut.ensures.value in
    in_done b.island c.serve-told.new.island b.ins.items b.outs.items b.ways.items c.args.k c.index_mut.result.now c.serve-told.new.self at c.requires.stands.table c.requires.stands.apart c.serve-told.ensures.beside c.serve-told.ensures.wire.0 n m (h c.index_mut.result.now at) c.serve-told.ensures.fed

pub returns-clause-goes : goal.returns-clause-goes
returns-clause-goes g c =
    let b = c.args.self.now in
    let x = c.index_mut.result.now in
    let at = at_index b.ins.items c.args.k x c.requires.within c.index_mut.ensures.value in
    in_goes b _ c.args.k x c.serve-told.new.self at (goes_of (way_in b.island x.wire) (in_node b.island x.wire) b.island c.serve-told.new.island c.serve-told.ensures.beside) c.serve-told.ensures.wire.0 c.serve-told.ensures.wire.1 refl refl refl

pub returns-clause-costs : goal.returns-clause-costs
returns-clause-costs g c =
    let b = c.args.self.now in
    let at = at_index b.ins.items c.args.k c.index_mut.result.now c.requires.within c.index_mut.ensures.value in
    let same = ap length c.serve-told.ensures.wire.2 in
    let t = taken_set b.ins.items c.args.k c.index_mut.result.now c.serve-told.new.self 0 at (omega (arith, same)) in
    (omega (arith, t), refl)

pub returns-clause-only : goal.returns-clause-only
returns-clause-only g c =
    let b = c.args.self.now in
    let at = at_index b.ins.items c.args.k c.index_mut.result.now c.requires.within c.index_mut.ensures.value in
    only_in_here b _ c.args.k c.index_mut.result.now c.serve-told.new.self at c.serve-told.ensures.known.1 refl refl

pub returns-clause-looks : goal.returns-clause-looks
returns-clause-looks g c =
    let b = c.args.self.now in
    let t = c.serve-told.ensures in
    let at = at_index b.ins.items c.args.k c.index_mut.result.now c.requires.within c.index_mut.ensures.value in
    keeps_looks_in b _ c.args.k c.index_mut.result.now c.serve-told.new.self at (record { taken_is = t.wire.2; found_is = t.known.0; told_is = t.known.1; over_is = t.known.2 }) refl refl

pub returns-clause-wakes : goal.returns-clause-wakes
returns-clause-wakes g c =
    let b = c.args.self.now in
    let t = c.serve-told.ensures in
    let p = c.tell_in.ensures in
    let at = at_index b.ins.items c.args.k c.index_mut.result.now c.requires.within c.index_mut.ensures.value in
    wakes_in b _ c.args.k c.index_mut.result.now c.serve-told.new.self c.serve-told.result at refl refl p.same.0 p.same.1 p.added (record { asks_more = t.least.0; cancels = t.least.1 }) t.told (λ e. let q = t.quiet e in (q.0, q.2))
