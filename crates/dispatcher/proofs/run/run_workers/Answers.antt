-- The goals of `run::run_workers` that the search leaves.
use Rattle.std.proofs.Common.{arith, ap, ◌∙◌, length}
use Rattle.std.proofs.lemmas.List.Elements.{All-same}
use Rattle.dispatcher.specs.PublicBudget.{budget_id}
use Rattle.dispatcher.specs.Places.{Belongs}
use Rattle.dispatcher.proofs.run.run_workers.Goals as goal

pub take_turns-places-requires-clause-crew : goal.take_turns-places-requires-clause-crew
take_turns-places-requires-clause-crew g c κs within =
    let b = c.in-Ok.room.purse in let values = c.in-Ok-new.ensures.values in let places = c.place_all-places in (
      omega (arith, ap length values, places.result.ok, places.ensures.len, c.in-Ok-box_all.ensures.len, c.len-count.ensures, c.args.bodies.ok, c.in-Ok.ensures.limit.1),
      All-same (Belongs (budget_id b) b.limit) _ _ values places.ensures.belong,
    )

pub take_apart-requires-clause-belong : goal.take_apart-requires-clause-belong
take_apart-requires-clause-belong g c =
    let b = c.in-Ok.room.purse in
    All-same (Belongs (budget_id b) b.limit) _ _ (c.take_turns-places.ensures ∙ c.in-Ok-new.ensures.values) c.place_all-places.ensures.belong

pub take_apart-requires-in-Err-new-clause-belong : goal.take_apart-requires-in-Err-new-clause-belong
take_apart-requires-in-Err-new-clause-belong g c =
    let b = c.in-Ok.room.purse in
    All-same (Belongs (budget_id b) b.limit) _ _ c.in-Err-new.ensures.refused c.place_all-places.ensures.belong
