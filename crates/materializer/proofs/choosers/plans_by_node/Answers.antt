-- The goals of `choosers::plans_by_node` that the search leaves.
use Rattle.std.proofs.Common.{◌≡◌, ◌≤◌, ◌∙◌, length, map, vec_capacity, ap, sym, subst, arith, rules}
use Rattle.std.specs.Vec.Iter.{into_iter_items, into_iter_len}
use Rattle.std.specs.declared.vec.Vec.{Vec}
use Rattle.std.proofs.lemmas.List.{drop_all}
use Rattle.materializer.specs.Choosers.{PlansFit}
use Rattle.materializer.proofs.Choosing.{mapped_length, plans_fit}
use Rattle.materializer.proofs.ChooserLoops.{Lists, some_left, count_next, plans_first, plans_next, plans_all}
use Rattle.materializer.proofs.choosers.plans_by_node.Goals as goal

pub loop-node-init : goal.loop-node-init
loop-node-init c =
    let left = c.into_iter-left.result in
    let all = c.into_iter-left.ensures.rest in
    let each : into_iter_len left ≡ length (into_iter_items left) = search rules in
    let room : length c.args.nodes.now ≤ vec_capacity c.in_ok-by_node.by_node = search (rules, arith) in (
      plans_first c.args.nodes.now _ (into_iter_items left) c.args.plans.items c.in_ok-by_node.ensures.items all,
      c.in_ok-by_node.ensures.len,
      room,
      ap (λ l. length l) all ∙ sym (mapped_length (λ p. p.items) c.args.plans.items) ∙ c.requires.1.1.all,
      each,
    )

pub next_moves-requires : goal.next_moves-requires
next_moves-requires c = some_left c.args.nodes.now c.loop-node.node-index c.node-item.result _ _ c.loop-node-test.true c.node-item.is c.loop-node.invariant.3 c.loop-node.invariant.4

pub loop-node-preserved : goal.loop-node-preserved
loop-node-preserved c =
    let kept = c.loop-node.invariant in
    let next = c.next_moves.ensures in (
      plans_next c.args.nodes.now c.loop-node.node-index c.node-item.result _ _ _ _ _ _ c.loop-node-test.true c.node-item.is c.push_reserved.ensures.items next.moves next.left kept.0,
      omega (arith, kept.1, c.push_reserved.ensures.len),
      omega (arith, kept.2, c.push_reserved.ensures.capacity),
      count_next c.args.nodes.now c.loop-node.node-index c.node-item.result _ _ c.loop-node-test.true c.node-item.is kept.3 next.left,
      next.each kept.4,
    )

pub returns-clause-plans : goal.returns-clause-plans
returns-clause-plans c = plans_all _ _ _ _ (drop_all _ _ c.loop-node-test.false) c.loop-node.invariant.0

pub returns-clause-fit : goal.returns-clause-fit
returns-clause-fit c =
    subst (PlansFit (map (λ n. n.kind) c.args.nodes.now)) (sym (plans_all _ _ _ _ (drop_all _ _ c.loop-node-test.false) c.loop-node.invariant.0))
    (plans_fit c.args.nodes.now (Lists c.args.plans.items) c.requires.0 c.requires.1.0 c.requires.1.1)
