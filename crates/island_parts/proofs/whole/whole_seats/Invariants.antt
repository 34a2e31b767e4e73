-- The loops of `whole::whole_seats`.
use Rattle.std.proofs.Common.{◌≡◌, ◌+◌, ◌≤◌, ◌++◌, length, map, drop, vec_len, vec_capacity}
use Rattle.island_parts.specs.Whole.{in_seat, out_seat}
use Rattle.island_parts.proofs.whole.whole_seats.Given as goal

-- with what is left they are all, and there is room
abbrev pub invariant-entries : goal.invariant-entries
invariant-entries g l =
    (l.all.items ++ map in_seat (drop l.lane-index l.lanes) ≡ l.fn.nodes.items ++ map in_seat l.lanes)
    × (vec_len l.all ≡ vec_len l.fn.nodes + l.lane-index)
    × (vec_len l.fn.nodes + length l.lanes + length l.lanes ≤ vec_capacity l.all)

abbrev pub invariant-exits : goal.invariant-exits
invariant-exits g l =
    (l.all.items ++ map out_seat (drop l.lane-index l.lanes) ≡ (l.fn.nodes.items ++ map in_seat l.lanes) ++ map out_seat l.lanes)
    × (vec_len l.all ≡ vec_len l.fn.nodes + length l.lanes + l.lane-index)
    × (vec_len l.fn.nodes + length l.lanes + length l.lanes ≤ vec_capacity l.all)
