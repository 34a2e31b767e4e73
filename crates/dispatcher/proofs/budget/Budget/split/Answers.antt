-- The goals of `budget::Budget::split` that the search leaves.
use Rattle.std.proofs.Common.{rules, ap}
use Rattle.dispatcher.proofs.BudgetKeeps.{deals}
use Rattle.dispatcher.proofs.budget.Budget.split.Goals as goal

pub split_seat-requires : goal.split_seat-requires
split_seat-requires c = let key = c.args.self.now.table.shared.key in let me = c.requires.seat.1 in
    (search rules, search rules, deals key.limit key.seats _ c.args.seat.now.seat.me.0 c.requires.parts (ap (λ m. m.0.claim) me) (ap (λ m. m.0.granted) me))
