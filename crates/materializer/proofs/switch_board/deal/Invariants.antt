-- The loop of `board::deal`.
use Rattle.std.proofs.Common.{◌≡◌, vec_len, drop}
use Rattle.std.specs.Arc.{arc_value}
use Rattle.std.specs.List.{All}
use Rattle.stage_switch.specs.Public.{IsNewSeat}
use Rattle.materializer.specs.Board.{count_at}
use Rattle.materializer.proofs.Dealt.{DealtTo}
use Rattle.materializer.proofs.switch_board.deal.Given as goal

-- the nodes so far have theirs, and there is a seat for each that is left
abbrev pub invariant-loop-k : goal.invariant-loop-k
invariant-loop-k l =
    (vec_len l.seats ≡ count_at l.j (drop l.k l.places))
    × All (IsNewSeat (arc_value l.switch)) l.seats.items
    × DealtTo l.j (arc_value l.switch) l.places l.fn.ends.items l.k l.ends.items
