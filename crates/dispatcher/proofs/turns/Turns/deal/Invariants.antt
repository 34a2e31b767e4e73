-- The loop of `turns::Turns::deal`.
use Rattle.std.proofs.Common.{◌≡◌, ◌+◌, [], vec_len, vec_capacity}
use Rattle.std.specs.List.{All}
use Rattle.dispatcher.specs.Table.{hold}
use Rattle.dispatcher.specs.PublicTurns.{IsFree}
use Rattle.dispatcher.proofs.turns.Turns.deal.Given as goal

-- the parts that the first seat has left, and those of the seats that were dealt, are all parts
abbrev pub invariant-loop : goal.invariant-loop
invariant-loop g l =
    (l.first.table_id ≡ l.fn.self.table.shared.table_id)
    × (l.first.me ≡ (hold l.first.me.0.parts [] 0 l.first.me.0.found l.first.me.0.began l.first.me.0.woke, []))
    × (l.first.me.0.parts + l.counter ≡ l.fn.count + 1)
    × (vec_len l.seats + 1 ≡ l.counter)
    × (vec_capacity l.seats ≡ vec_capacity l.fn.seats)
    × All (IsFree l.fn.self) l.seats.items
