-- The goals of `body::Body::visit_out` that the search leaves.
use Rattle.std.proofs.Common.{◌≡◌, refl, arith, length-set}
use Rattle.std.specs.Prelude.{length}
use Rattle.interpreter.specs.Boundary.{way_out}
use Rattle.island_body.specs.Beside.{out_node}
use Rattle.island_body.proofs.Lists.{finds_set}
use Rattle.island_body.proofs.Standing.{goes_of, out_done, served_but}
use Rattle.island_body.proofs.Acting.{at_index, out_serves, out_goes, done_as, found_none_here}
use Rattle.fused_net.proofs.Reading.{get_set_other}
use Rattle.std.specs.Prelude.{ℕ}
use Rattle.island_body.specs.Sending.{VisitIs, unit_of}
use Rattle.island_body.specs.declared.found.Found.{Found}
use Rattle.island_body.specs.declared.found.Found.TheVariants.{Nothing, Demand, Cancelled}
use Rattle.island_body.proofs.Looking.{only_out_here, saw_all_here}
use Rattle.island_body.proofs.Telling.{wakes_looked_out}
use Rattle.island_body.proofs.body.Body.visit_out.Goals as goal

is_nothing : (f : Found) → unit_of f ≡ 0 → f ≡ Nothing
is_nothing Nothing e = refl
is_nothing Demand e = absurd (omega (arith, e))
is_nothing Cancelled e = absurd (omega (arith, e))

found_nothing : (f : Found) (s c t d : ℕ) → f ≡ Nothing → VisitIs f s c t d → (t ≡ s) × (d ≡ c)
found_nothing Nothing s c t d e v = v
found_nothing Demand s c t d e v = absurd cc
found_nothing Cancelled s c t d e v = absurd cc

pub visit-requires-clause-leaves : goal.visit-requires-clause-leaves
visit-requires-clause-leaves g c = (c.requires.stands.stand.outs_stand c.args.k c.index_mut.result.now (at_index c.args.self.now.outs.items c.args.k c.index_mut.result.now c.requires.within c.index_mut.ensures.value)).leaves

pub visit-requires-clause-serves : goal.visit-requires-clause-serves
visit-requires-clause-serves g c = (c.requires.stands.stand.outs_stand c.args.k c.index_mut.result.now (at_index c.args.self.now.outs.items c.args.k c.index_mut.result.now c.requires.within c.index_mut.ensures.value)).serves

pub visit-requires-clause-served : goal.visit-requires-clause-served
visit-requires-clause-served g c = c.requires.served.outs_served c.args.k c.index_mut.result.now c.requires.within (at_index c.args.self.now.outs.items c.args.k c.index_mut.result.now c.requires.within c.index_mut.ensures.value) tt

pub returns-clause-stands : goal.returns-clause-stands
returns-clause-stands g c =
    let at = at_index c.args.self.now.outs.items c.args.k c.index_mut.result.now c.requires.within c.index_mut.ensures.value in
    out_serves c.args.self.now _ c.args.k c.index_mut.result.now c.visit.new.self at c.requires.stands c.visit.ensures.beside c.visit.ensures.wire.0 c.visit.ensures.serves refl refl refl

pub returns-clause-served : goal.returns-clause-served
returns-clause-served g c =
    let b = c.args.self.now in
    let x = c.index_mut.result.now in
    let at = at_index b.outs.items c.args.k x c.requires.within c.index_mut.ensures.value in
    let n = length b.ins.items in
    let m = length b.outs.items in
    done_as n m c.visit.new.island b.ins.items _ refl (length-set _ _ _) (out_done b.island c.visit.new.island b.ins.items b.outs.items b.ways.items c.args.k x c.visit.new.self at c.requires.stands.table c.requires.stands.apart c.visit.ensures.beside c.visit.ensures.wire.0 n m (served_but _ n m b.island b.ins.items b.outs.items c.requires.served) c.visit.ensures.served)

pub returns-clause-goes : goal.returns-clause-goes
returns-clause-goes g c =
    let b = c.args.self.now in
    let x = c.index_mut.result.now in
    let at = at_index b.outs.items c.args.k x c.requires.within c.index_mut.ensures.value in
    out_goes b _ c.args.k x c.visit.new.self at (goes_of (way_out b.island x.wire) (out_node b.island x.wire) b.island c.visit.new.island c.visit.ensures.beside) c.visit.ensures.wire.0 c.visit.ensures.wire.1 refl refl refl

pub returns-clause-finds : goal.returns-clause-finds
returns-clause-finds g c =
    let b = c.args.self.now in
    let at = at_index b.outs.items c.args.k c.index_mut.result.now c.requires.within c.index_mut.ensures.value in
    finds_set b.outs.items c.args.k c.index_mut.result.now c.visit.new.self _ at c.visit.ensures.finds

pub returns-clause-none : goal.returns-clause-none
returns-clause-none g c z =
    let b = c.args.self.now in
    let at = at_index b.outs.items c.args.k c.index_mut.result.now c.requires.within c.index_mut.ensures.value in
    let e = is_nothing c.visit.result z in
    let f = found_nothing c.visit.result _ _ _ _ e c.visit.ensures.found in
    record {
      island = c.visit.ensures.nothing e;
      ins = refl;
      here = found_none_here b.outs.items c.args.k c.index_mut.result.now c.visit.new.self at (record { seen_is = f.0; cancel_is = f.1; told = c.visit.ensures.told });
      others = λ j ne. get_set_other b.outs.items c.args.k j c.visit.new.self ne;
    }

pub returns-clause-only : goal.returns-clause-only
returns-clause-only g c = only_out_here c.args.self.now _ c.args.k c.visit.new.self refl refl

pub returns-clause-last : goal.returns-clause-last
returns-clause-last g c =
    let b = c.args.self.now in
    let at = at_index b.outs.items c.args.k c.index_mut.result.now c.requires.within c.index_mut.ensures.value in
    saw_all_here b.outs.items c.args.k c.index_mut.result.now c.visit.new.self at (record { told = c.visit.ensures.told })

pub returns-clause-wakes : goal.returns-clause-wakes
returns-clause-wakes g c =
    let b = c.args.self.now in
    let at = at_index b.outs.items c.args.k c.index_mut.result.now c.requires.within c.index_mut.ensures.value in
    wakes_looked_out b _ c.args.k c.index_mut.result.now c.visit.new.self at refl refl refl c.visit.ensures.wire.2
