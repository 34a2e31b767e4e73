-- The goals of `body::Body::run` that the search leaves.
use Rattle.std.proofs.Common.{◌≡◌, ◌∙◌, refl, ap, sym, inl, inr, true, false, arith}
use Rattle.fused_net.proofs.Keeping.{on_err}
use Rattle.std.specs.declared.vec.Vec.{Vec}
use Rattle.island_body.specs.declared.output.OutputBoundary.{OutputBoundary}
use Rattle.island_body.specs.declared.input.IslandInput.{IslandInput}
use Rattle.island_body.specs.Ends.{all_taken, all_finds}
use Rattle.island_body.specs.Lasting.{goes_on, goes_still, goes_breaks}
use Rattle.island_body.proofs.Looking.{keeps_looks_same, keeps_looks_still, keeps_looks_on}
use Rattle.island_body.proofs.Telling.{wakes_same, wakes_still, wakes_on}
use Rattle.island_body.proofs.Resting.{none_queued, some_left, same_next, turns_fewer, none_done}
use Rattle.island_body.proofs.body.Body.run.Goals as goal

pub returns-in_err-heard-clause-breaks : goal.returns-in_err-heard-clause-breaks
returns-in_err-heard-clause-breaks g c = on_err c.from_residual.result (goes_breaks g.S.Source.state g.D.Drain.state g.B.PlugBook.lists _ _ _ c.loop-alloc.invariant.goes c.in_err-heard.ensures.breaks)

pub loop-alloc-init : goal.loop-alloc-init
loop-alloc-init g c =
    let less = c.requires.less in
    rw c.settle.ensures (record {
      stands = c.requires.stands;
      served = c.requires.served;
      goes = goes_still _;
      wakes = wakes_still _;
      looks = keeps_looks_still _;
      more = omega arith;
      less = omega (arith, less);
      uses = omega arith;
      used = refl;
      costs = (refl, refl, refl);
      same = λ _. (refl, refl, λ q. q);
    })

pub is_done-requires-clause-within : goal.is_done-requires-clause-within
is_done-requires-clause-within g c = λ w is. (c.in_ok-heard.ensures.heard w is).1

pub loop-alloc-preserved : goal.loop-alloc-preserved
loop-alloc-preserved g c =
    let i = c.loop-alloc.invariant in
    let e = c.in_ok-heard.ensures in
    let s = c.is_done.ensures in
    record {
      stands = s.stands;
      served = s.served;
      goes = goes_on _ _ _ i.goes (goes_on _ _ _ e.goes s.goes);
      wakes = wakes_on _ _ _ i.wakes (wakes_on _ _ _ (wakes_same _ _ e.lanes.0 e.lanes.1 e.lanes.4) s.wakes);
      looks = keeps_looks_on _ _ _ i.goes i.looks (keeps_looks_on _ _ _ e.goes (keeps_looks_same _ _ e.lanes.0 e.lanes.1) s.looks);
      more = let a = i.more in omega (arith, a);
      less = let a = i.less in let b = e.within in omega (arith, a, b);
      uses = let a = i.uses in let b = e.uses.least in let d = s.uses.least in omega (arith, a, b, d);
      used = let a = i.used in let b = e.used in let d = s.rest.0 in omega (arith, a, b, d);
      costs = (
        s.costs.0 ∙ (ap (λ (v : Vec IslandInput _). all_taken v.items) e.lanes.0 ∙ i.costs.0),
        s.costs.1 ∙ (ap (λ (v : Vec OutputBoundary _). all_finds v.items) e.lanes.1 ∙ i.costs.1),
        s.rest.1 ∙ (e.lanes.3 ∙ i.costs.2),
      );
      same = same_next c.args.self.now c.loop-alloc.self c.step.new.self c.is_done.new.self _ _ c.in_ok-heard.heard i.more i.same (λ w is. (e.heard w is).0) e.lanes.0 e.lanes.1 s.lanes (λ none. (s.not_done c.if-is_done.false none).0);
    }

pub loop-alloc-smaller : goal.loop-alloc-smaller
loop-alloc-smaller g c =
    let e = c.in_ok-heard.ensures in
    let s = c.is_done.ensures in
    turns_fewer _ c.step.new.self c.is_done.new.self c.loop-alloc.count c.args.limit c.in_ok-heard.heard c.loop-alloc.invariant.less e.within (λ w is. (e.heard w is).0) e.none e.rest (λ none. s.not_done c.if-is_done.false none)

pub returns-then-is_done-clause-looks : goal.returns-then-is_done-clause-looks
returns-then-is_done-clause-looks g c =
    let e = c.in_ok-heard.ensures in
    let i = c.loop-alloc.invariant in
    keeps_looks_on _ _ _ i.goes i.looks (keeps_looks_on _ _ _ e.goes (keeps_looks_same _ _ e.lanes.0 e.lanes.1) c.is_done.ensures.looks)

pub returns-then-is_done-clause-wakes : goal.returns-then-is_done-clause-wakes
returns-then-is_done-clause-wakes g c =
    let e = c.in_ok-heard.ensures in
    wakes_on _ _ _ c.loop-alloc.invariant.wakes (wakes_on _ _ _ (wakes_same _ _ e.lanes.0 e.lanes.1 e.lanes.4) c.is_done.ensures.wakes)

pub returns-then-is_done-clause-goes : goal.returns-then-is_done-clause-goes
returns-then-is_done-clause-goes g c = goes_on _ _ _ c.loop-alloc.invariant.goes (goes_on _ _ _ c.in_ok-heard.ensures.goes c.is_done.ensures.goes)

pub returns-then-is_done-clause-uses : goal.returns-then-is_done-clause-uses
returns-then-is_done-clause-uses g c = let a = c.loop-alloc.invariant.uses in let b = c.in_ok-heard.ensures.uses.least in let d = c.is_done.ensures.uses.least in omega (arith, a, b, d)

pub returns-then-is_done-clause-used : goal.returns-then-is_done-clause-used
returns-then-is_done-clause-used g c = let a = c.loop-alloc.invariant.used in let b = c.in_ok-heard.ensures.used in let d = c.is_done.ensures.rest.0 in omega (arith, a, b, d)

pub returns-then-is_done-clause-costs : goal.returns-then-is_done-clause-costs
returns-then-is_done-clause-costs g c =
    let i = c.loop-alloc.invariant in
    let e = c.in_ok-heard.ensures in
    let s = c.is_done.ensures in (
      s.costs.0 ∙ (ap (λ (v : Vec IslandInput _). all_taken v.items) e.lanes.0 ∙ i.costs.0),
      s.costs.1 ∙ (ap (λ (v : Vec OutputBoundary _). all_finds v.items) e.lanes.1 ∙ i.costs.1),
      s.rest.1 ∙ (e.lanes.3 ∙ i.costs.2),
    )

pub returns-then-is_done-clause-none : goal.returns-then-is_done-clause-none
returns-then-is_done-clause-none g c = λ z less.
    let i = c.loop-alloc.invariant in
    let e = c.in_ok-heard.ensures in
    let s = c.is_done.ensures in
    none_done c.args.self.now c.loop-alloc.self c.step.new.self c.is_done.new.self c.loop-alloc.count c.args.used c.args.limit c.in_ok-heard.heard i.more i.same z less e.none e.rest e.lanes.0 e.lanes.1 (s.done c.if-is_done.true).0 s.lanes

pub returns-then-is_done-clause-rest : goal.returns-then-is_done-clause-rest
returns-then-is_done-clause-rest g c = λ less calm. none_queued _ ((c.is_done.ensures.done c.if-is_done.true).2 (some_left _ _ less))

pub returns-then-is_done-clause-calm : goal.returns-then-is_done-clause-calm
returns-then-is_done-clause-calm g c = (c.is_done.ensures.done c.if-is_done.true).1

pub returns-then-is_to_pause-clause-calm : goal.returns-then-is_to_pause-clause-calm
returns-then-is_to_pause-clause-calm g c = λ none.
    let s = c.is_to_pause.ensures c.if-is_to_pause.true in
    absurd (let t : true ≡ false = sym s.1.1 ∙ none in cc)

pub returns-then-is_to_pause-clause-none : goal.returns-then-is_to_pause-clause-none
returns-then-is_to_pause-clause-none g c = λ z less.
    let s = c.is_to_pause.ensures c.if-is_to_pause.true in
    let some = s.1.0 in
    absurd (omega (arith, z, some))

pub returns-then-is_to_pause-clause-rest : goal.returns-then-is_to_pause-clause-rest
returns-then-is_to_pause-clause-rest g c = λ less calm.
    let s = c.is_to_pause.ensures c.if-is_to_pause.true in
    elim calm [
      | inl none ↦ absurd (let t : true ≡ false = sym s.0 ∙ none in cc)
      | inr none ↦ absurd (let t : true ≡ false = sym s.1.1 ∙ none in cc)
    ]
