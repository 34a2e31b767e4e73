-- What a clause says of a budget and its seats.
use Rattle.std.specs.Prelude.{◌≡◌, ℕ, []}
use Rattle.atomic_table.specs.Seated.{TableId}
use Rattle.dispatcher.specs.Rule.{share}
use Rattle.dispatcher.specs.declared.budget.Budget.{Budget}
use Rattle.dispatcher.specs.declared.budget.BudgetSeat.{BudgetSeat}

-- which budget it is, by the identity of its table
abbrev pub budget_id : Budget → TableId
budget_id b = b.table.shared.table_id

-- of which budget a seat is
abbrev pub seat_id : BudgetSeat → TableId
seat_id s = s.seat.table_id

-- the units that were used with the seat
abbrev pub used_by : BudgetSeat → ℕ
used_by s = s.seat.me.0.used

-- the parts of all seats that a seat has
abbrev pub budget_parts : BudgetSeat → ℕ
budget_parts s = s.seat.me.0.parts

-- the units of the whole budget, as a seat knows them
abbrev pub limit_of : BudgetSeat → ℕ
limit_of s = s.seat.me.0.limit

-- how many units a seat may use of its claim
abbrev pub granted_to : BudgetSeat → ℕ
granted_to s = s.seat.me.0.granted

-- the seat has no claim
abbrev pub HasNoClaim : BudgetSeat → Type 0
HasNoClaim s = s.seat.me ≡ (share (budget_parts s) (used_by s) 0 0 (limit_of s), [])
