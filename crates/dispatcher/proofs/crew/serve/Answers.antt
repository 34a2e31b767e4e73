-- The goals of `crew::serve` that the search leaves.
use Rattle.std.proofs.Common.{◌≡◌, ap, sym, subst, ◌∙◌, Some, slice_get, map}
use Rattle.dispatcher.specs.PublicBudget.{budget_id}
use Rattle.dispatcher.specs.PublicTurns.{handed_in}
use Rattle.dispatcher.specs.Places.{Belongs}
use Rattle.dispatcher.proofs.Lists.{fits_keep}
use Rattle.dispatcher.proofs.crew.serve.Goals as goal

pub turn-came-requires-clause-belongs : goal.turn-came-requires-clause-belongs
turn-came-requires-clause-belongs g c =
    let b = c.args.budget.now in let turn = c.in-Ok.ensures.turn in
    subst (Belongs (budget_id b) b.limit) (sym c.value.ensures.value) (fits_keep (Belongs (budget_id b) b.limit) (handed_in c.args.turns.now) c.args.id c.in-Ok.turn.value turn.1 c.requires.crew.1)

pub end-requires-clause-origin : goal.end-requires-clause-origin
end-requires-clause-origin g c =
    let turn = c.in-Ok.ensures.turn in
    let same : c.in-Ok.turn.value ≡ c.value-2.result.now = sym (c.value-2.ensures.value ∙ c.turn-came.ensures.same ∙ c.value.ensures.value) in
    subst (λ k. slice_get (map (λ x. x) (handed_in c.args.turns.now)) k ≡ Some c.value-2.result.now) (sym turn.0) (turn.1 ∙ ap Some same)
