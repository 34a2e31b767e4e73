-- The loop of `turns::Turns::gather`.
use Rattle.std.proofs.Common.{◌≡◌, ◌+◌, [], vec_len}
use Rattle.std.specs.List.{All}
use Rattle.dispatcher.specs.Table.{hold}
use Rattle.dispatcher.specs.PublicTurns.{IsFree}
use Rattle.dispatcher.proofs.turns.Turns.gather.Given as goal

-- the parts that were gathered, and those of the seats that are left, are all parts
abbrev pub invariant-loop-badge : goal.invariant-loop-badge
invariant-loop-badge g l =
    (l.all.table_id ≡ l.fn.self.table.shared.table_id)
    × (l.all.me ≡ (hold l.all.me.0.parts [] 0 l.all.me.0.found l.all.me.0.began l.all.me.0.woke, []))
    × (l.all.me.0.parts + vec_len l.seats ≡ vec_len l.fn.seats)
    × All (IsFree l.fn.self) l.seats.items

abbrev pub decreases-loop-badge : goal.decreases-loop-badge
decreases-loop-badge g l = vec_len l.seats
