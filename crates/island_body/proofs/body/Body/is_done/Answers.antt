-- The goals of `body::Body::is_done` that the search leaves.
use Rattle.std.specs.Prelude.{Option, None, Some, length}
use Rattle.std.proofs.Common.{◌≡◌, ◌∙◌, ℕ, sym, ap, subst, true, false}
use Rattle.std.specs.declared.vec.Vec.{Vec}
use Rattle.island_body.specs.declared.output.OutputBoundary.{OutputBoundary}
use Rattle.island_body.specs.declared.input.IslandInput.{IslandInput}
use Rattle.island_body.specs.Ends.{all_taken, all_finds, AllServed}
use Rattle.island_body.proofs.Looking.{keeps_looks_same}
use Rattle.island_body.proofs.Telling.{wakes_same}
use Rattle.island_body.proofs.body.Body.is_done.Goals as goal

pub serve_at-requires-clause-served : goal.serve_at-requires-clause-served
serve_at-requires-clause-served g c =
    let b = c.args.self.now in
    subst (λ (h : Option ℕ). AllServed h (length b.ins.items) (length b.outs.items) b.island b.ins.items b.outs.items) c.in-Some.is c.requires.served

pub put_off-pending-requires-clause-served : goal.put_off-pending-requires-clause-served
put_off-pending-requires-clause-served g c =
    let b = c.args.self.now in
    subst (λ (h : Option ℕ). AllServed h (length b.ins.items) (length b.outs.items) b.island b.ins.items b.outs.items) c.in-None.is c.requires.served

pub returns-in-Some-clause-lanes : goal.returns-in-Some-clause-lanes
returns-in-Some-clause-lanes g c = λ none. absurd (let t : Some c.in-Some.w ≡ None = sym c.in-Some.is ∙ none in cc)

pub returns-in-Some-clause-done : goal.returns-in-Some-clause-done
returns-in-Some-clause-done g c = λ r. absurd (let t : false ≡ true = r in cc)

pub returns-in-Some-clause-not_done : goal.returns-in-Some-clause-not_done
returns-in-Some-clause-not_done g c = λ r none. absurd (let t : Some c.in-Some.w ≡ None = sym c.in-Some.is ∙ none in cc)

pub returns-then-not-pending-clause-looks : goal.returns-then-not-pending-clause-looks
returns-then-not-pending-clause-looks g c = let l = c.put_off-pending.ensures.lanes in keeps_looks_same _ _ l.0 l.1

pub returns-then-not-pending-clause-wakes : goal.returns-then-not-pending-clause-wakes
returns-then-not-pending-clause-wakes g c = let l = c.put_off-pending.ensures.lanes in wakes_same _ _ l.0 l.1 l.4

pub returns-then-not-pending-clause-costs : goal.returns-then-not-pending-clause-costs
returns-then-not-pending-clause-costs g c =
    let l = c.put_off-pending.ensures.lanes in
    (ap (λ (v : Vec IslandInput _). all_taken v.items) l.0, ap (λ (v : Vec OutputBoundary _). all_finds v.items) l.1)

pub returns-else-not-pending-clause-looks : goal.returns-else-not-pending-clause-looks
returns-else-not-pending-clause-looks g c = let l = c.put_off-pending.ensures.lanes in keeps_looks_same _ _ l.0 l.1

pub returns-else-not-pending-clause-wakes : goal.returns-else-not-pending-clause-wakes
returns-else-not-pending-clause-wakes g c = let l = c.put_off-pending.ensures.lanes in wakes_same _ _ l.0 l.1 l.4

pub returns-else-not-pending-clause-costs : goal.returns-else-not-pending-clause-costs
returns-else-not-pending-clause-costs g c =
    let l = c.put_off-pending.ensures.lanes in
    (ap (λ (v : Vec IslandInput _). all_taken v.items) l.0, ap (λ (v : Vec OutputBoundary _). all_finds v.items) l.1)
