-- The goals of `budget::Budget::join` that the search leaves.
use Rattle.std.proofs.Common.{rules, ap}
use Rattle.dispatcher.proofs.BudgetKeeps.{joins}
use Rattle.dispatcher.proofs.budget.Budget.join.Goals as goal

pub join_seat-requires : goal.join_seat-requires
join_seat-requires c = let key = c.args.self.now.table.shared.key in let me = c.requires.seat.1 in let you = c.requires.other.1 in (
  search rules,
  search rules,
  search rules,
  search rules,
  joins key.limit key.seats _ _ _ _ (ap (λ m. m.0.claim) me) (ap (λ m. m.0.granted) me) (ap (λ m. m.0.claim) you) (ap (λ m. m.0.granted) you) c.requires.part,
)
