-- The goals of `run::run` that the search leaves.
use Rattle.std.proofs.Common.{◌∙◌, ap, map}
use Rattle.materializer.specs.Seats.{place_plan, place_types}
use Rattle.island_runs.proofs.run.run.Goals as goal

pub run_bodies-requires-clause-begun : goal.run_bodies-requires-clause-begun
run_bodies-requires-clause-begun g c = λ κs lives. (c.args.prepared.plans.blueprint.value, (c.args.sources.items, (c.args.drains.items, c.in-Ok.ensures.begun.0)))

pub returns-in-Ok-run_bodies-clause-leaves : goal.returns-in-Ok-run_bodies-clause-leaves
returns-in-Ok-run_bodies-clause-leaves g c =
    let begun = c.in-Ok.ensures.begun in
    let left = c.in-Ok-run_bodies.ensures.leaves c.args.prepared.plans.blueprint.value c.args.sources.items c.args.drains.items begun.0 in
    (left.0, ap (map place_plan) left.1 ∙ begun.1, ap (map place_types) left.1 ∙ begun.2)

pub returns-in-Ok-run_bodies-clause-receipt : goal.returns-in-Ok-run_bodies-clause-receipt
returns-in-Ok-run_bodies-clause-receipt g c = c.in-Ok-run_bodies.ensures.receipt c.args.prepared.plans.blueprint.value c.args.sources.items c.args.drains.items c.in-Ok.ensures.begun.0

pub returns-in-Err-run_bodies-clause-breaks : goal.returns-in-Err-run_bodies-clause-breaks
returns-in-Err-run_bodies-clause-breaks g c = c.in-Err-run_bodies.ensures.breaks c.args.prepared.plans.blueprint.value c.args.sources.items c.args.drains.items c.in-Ok.ensures.begun.0
