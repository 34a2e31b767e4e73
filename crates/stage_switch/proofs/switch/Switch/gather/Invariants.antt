use Rattle.std.proofs.Common.{◌≡◌, ◌++◌, ◌≤◌, ◌+◌, List, [], vec_len}
use Rattle.std.specs.List.{All}
use Rattle.stage_switch.specs.Public.{SeatState, IsSeatOf, Gathers}
use Rattle.stage_switch.proofs.switch.Switch.gather.Given as goal

-- the seats behind those that are left were put together
abbrev pub invariant-loop-seat : goal.invariant-loop-seat
invariant-loop-seat l =
    (l.all.table_id ≡ l.fn.self.id)
    × (l.all.me.1 ≡ [])
    × (l.all.me.0.all ≡ l.fn.self.seats)
    × (1 ≤ l.all.me.0.parts)
    × (l.all.me.0.parts + vec_len l.seats ≡ vec_len l.fn.seats)
    × All (IsSeatOf l.fn.self) l.seats.items
    × ((gathered : List SeatState) × ((l.fn.seats.items ≡ l.seats.items ++ gathered) × Gathers l.all.me.0 gathered))

abbrev pub decreases-loop-seat : goal.decreases-loop-seat
decreases-loop-seat l = vec_len l.seats
