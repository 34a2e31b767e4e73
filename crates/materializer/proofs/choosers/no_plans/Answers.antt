-- The goals of `choosers::no_plans` that the search leaves.
use Rattle.std.proofs.Common.{◌∙◌, map, ap, sym, subst, arith}
use Rattle.materializer.specs.Choosers.{moves_of, PlansFit}
use Rattle.materializer.proofs.Choosing.{none_fit}
use Rattle.materializer.proofs.ChooserLoops.{none_more, none_all}
use Rattle.materializer.proofs.choosers.no_plans.Goals as goal

pub loop-init : goal.loop-init
loop-init c = (ap (map moves_of) c.in_ok-by_node.ensures.items, c.in_ok-by_node.ensures.len, c.in_ok-by_node.ensures.capacity)

pub loop-preserved : goal.loop-preserved
loop-preserved c =
    let kept = c.loop.invariant in (
      none_more _ _ _ c.push_reserved.ensures.items kept.0,
      omega (arith, kept.1, c.push_reserved.ensures.len),
      omega (arith, kept.2, c.push_reserved.ensures.capacity),
    )

pub returns-clause-plans : goal.returns-clause-plans
returns-clause-plans c = none_all _ _ _ c.loop.auto.counter-end c.loop-test.false c.loop.invariant.0

pub returns-clause-fit : goal.returns-clause-fit
returns-clause-fit c = λ all each. subst (PlansFit (map (λ n. n.kind) all)) (sym (none_all _ _ _ c.loop.auto.counter-end c.loop-test.false c.loop.invariant.0)) (none_fit all c.args.nodes each)
