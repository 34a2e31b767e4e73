-- The goals of `budget::Budget::look` that the search leaves.
use Rattle.std.proofs.Common.{rules}
use Rattle.dispatcher.proofs.BudgetKeeps.{looks}
use Rattle.dispatcher.proofs.budget.Budget.look.Goals as goal

pub load-requires : goal.load-requires
load-requires c = let key = c.args.self.now.table.shared.key in (search rules, search rules, looks key.limit key.seats _ _ c.args.seat.now.seat.me c.requires.2)
