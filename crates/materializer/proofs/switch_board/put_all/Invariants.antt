-- The loop of `board::put_all`.
use Rattle.std.proofs.Common.{vec_len}
use Rattle.materializer.proofs.Put.{PutFrom}
use Rattle.materializer.proofs.switch_board.put_all.Given as goal

-- the seats behind those that are left were put into their lists
abbrev pub invariant-loop-entry : goal.invariant-loop-entry
invariant-loop-entry l = PutFrom l.places l.fn.lists.items l.fn.seats.items l.seats.items l.lists.items

abbrev pub decreases-loop-entry : goal.decreases-loop-entry
decreases-loop-entry l = vec_len l.seats
