use Rattle.std.proofs.Common.{◌≡◌, ◌+◌, [], vec_len, vec_capacity}
use Rattle.std.specs.List.{All}
use Rattle.stage_switch.specs.Rule.{known}
use Rattle.stage_switch.specs.Public.{IsNewSeat}
use Rattle.stage_switch.proofs.switch.Switch.deal.Given as goal

-- the parts that the first seat has left, and those of the seats that were dealt, are all parts
abbrev pub invariant-loop : goal.invariant-loop
invariant-loop l =
    (l.first.table_id ≡ l.fn.self.id)
    × (l.first.me ≡ (known l.first.me.0.parts l.fn.self.seats [] [] 0, []))
    × (l.first.me.0.parts + l.counter ≡ l.fn.count + 1)
    × (vec_len l.seats + 1 ≡ l.counter)
    × (vec_capacity l.seats ≡ vec_capacity l.fn.seats)
    × All (IsNewSeat l.fn.self) l.seats.items
