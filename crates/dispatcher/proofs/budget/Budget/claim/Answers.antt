-- The goals of `budget::Budget::claim` that the search leaves.
use Rattle.std.proofs.Common.{rules, ap}
use Rattle.dispatcher.proofs.BudgetKeeps.{claims}
use Rattle.dispatcher.proofs.budget.Budget.claim.Goals as goal

pub fetch_add-found-requires : goal.fetch_add-found-requires
fetch_add-found-requires c = let key = c.args.self.now.table.shared.key in let me = c.requires.seat.1 in
    (search rules, search rules, claims key.limit key.seats _ _ c.args.seat.now.seat.me c.requires.part (ap (λ m. m.0.claim) me) (ap (λ m. m.0.granted) me))
