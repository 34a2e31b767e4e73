-- The goals of `body::Body::turn_by` that the search leaves.
use Rattle.std.proofs.Common.{◌≡◌, ◌∙◌, refl, sym, arith}
use Rattle.fused_net.proofs.Keeping.{on_err}
use Rattle.island_body.specs.Lasting.{goes_on, goes_breaks}
use Rattle.island_body.proofs.Acting.{idle_turn}
use Rattle.island_body.proofs.Looking.{has_looked}
use Rattle.island_body.proofs.Telling.{wakes_same, wakes_none}
use Rattle.island_body.proofs.body.Body.turn_by.Goals as goal

pub returns-in_err-used-clause-breaks : goal.returns-in_err-used-clause-breaks
returns-in_err-used-clause-breaks g c =
    let k = goes_breaks g.S.Source.state g.D.Drain.state g.B.PlugBook.lists _ _ _ (goes_on _ _ _ c.take_all-taken.ensures.goes c.visit_all-found.ensures.goes) c.in_err-used.ensures.breaks in
    on_err c.from_residual.result (record { last = k.last; island = k.island; laws = k.laws; stand = k.stand; kept = k.kept; lanes = k.lanes })

pub returns-clause-goes : goal.returns-clause-goes
returns-clause-goes g c =
    let all = goes_on _ _ _ c.take_all-taken.ensures.goes (goes_on _ _ _ c.visit_all-found.ensures.goes c.in_ok-used.ensures.goes) in
    record { island = all.island; lanes = all.lanes; ways = all.ways }

pub returns-clause-idle : goal.returns-clause-idle
returns-clause-idle g c = λ z one.
    let r = c.in_ok-used.ensures in
    let v = c.visit_all-found.ensures in
    let t = c.take_all-taken.ensures in
    let a = r.between.0 in
    let b = v.between.0 in
    let found : c.visit_all-found.result ≡ 0 = omega (arith, z, a) in
    let taken : c.take_all-taken.result ≡ 0 = omega (arith, found, b) in
    let last = r.none (z ∙ sym found) (omega (arith, found, one)) in
    let idle = idle_turn _ _ _ c.run.new.self (t.none taken one) (v.none (found ∙ sym taken) (omega (arith, taken, one))) last.0 last.1 last.2 in
    record { queue = idle.queue; ins = idle.ins; outs = idle.outs }

pub returns-clause-found : goal.returns-clause-found
returns-clause-found g c = λ less calm.
    let r = c.in_ok-used.ensures in
    let v = c.visit_all-found.ensures in
    let t = c.take_all-taken.ensures in
    let a = r.between.0 in
    let b = v.between.0 in
    let h = has_looked _ _ _ _ t.goes t.outs (t.last (omega (arith, less, a, b))) v.goes v.ins (v.last (omega (arith, less, a))) r.looks (r.rest less calm) r.served in
    record { ring = h.ring; ins = h.ins; outs = h.outs; done = h.done }

pub returns-clause-wakes : goal.returns-clause-wakes
returns-clause-wakes g c =
    let none = c.clear.ensures in
    let begun = wakes_none c.args.self.now (record c.args.self.now { peers = c.clear.new.self }) refl refl none.same.0 none.same.1 none.none in
    wakes_same c.run.new.self _ refl refl refl _ (c.in_ok-used.ensures.wakes _ (c.visit_all-found.ensures.wakes _ (c.take_all-taken.ensures.wakes _ begun)))
