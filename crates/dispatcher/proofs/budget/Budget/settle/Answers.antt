-- The goals of `budget::Budget::settle` that the search leaves.
use Rattle.std.proofs.Common.{rules, ap}
use Rattle.dispatcher.proofs.BudgetKeeps.{settles}
use Rattle.dispatcher.proofs.budget.Budget.settle.Goals as goal

pub fetch_sub-requires : goal.fetch_sub-requires
fetch_sub-requires c = let key = c.args.self.now.table.shared.key in let me = c.requires.seat.1 in
    (search rules, search rules, settles key.limit key.seats _ _ c.args.used c.args.seat.now.seat.me (ap (λ m. m.0.claim) me) c.requires.used.0 c.requires.used.1 c.requires.part)
