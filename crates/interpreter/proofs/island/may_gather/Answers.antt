-- The goals of `island::may_gather` that the search leaves.
use Rattle.std.proofs.Common.{◌≡◌, ◌∙◌, ◌≤◌, Some, ap, length, sym, rules, arith}
use Rattle.std.proofs.lemmas.Option.{slice_get-get_or, slice_get_within}
use Rattle.interpreter.specs.declared.parts.Seated.{Seated}
use Rattle.interpreter.proofs.Alone.{one_next}
use Rattle.interpreter.proofs.island.may_gather.Goals as goal

pub loop-n-preserved : goal.loop-n-preserved
loop-n-preserved g c =
    let few : c.index-nodes-n.result.room ≤ 1 = search rules in
    one_next c.args.nodes.now c.loop-n.n c.index-nodes-n.result (slice_get-get_or c.args.nodes.now c.loop-n.n c.index-nodes-n.result c.loop-n-test.true ∙ ap (λ (x : Seated _ _ _ _ _). Some x) (sym c.index-nodes-n.is)) few c.loop-n.invariant

pub returns : goal.returns
returns g c =
    let all : c.loop-n.n ≡ length c.args.nodes.now = search rules in
    λ e k s at. c.loop-n.invariant k s (let h = slice_get_within c.args.nodes.now k s at in omega (arith, all, h)) at
