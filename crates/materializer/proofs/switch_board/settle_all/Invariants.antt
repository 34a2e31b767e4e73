-- The loop of `board::settle_all`.
use Rattle.std.proofs.Common.{vec_len}
use Rattle.materializer.proofs.Put.{SettledFrom}
use Rattle.materializer.proofs.switch_board.settle_all.Given as goal

-- the lists behind those that are left were settled
abbrev pub invariant-loop-list : goal.invariant-loop-list
invariant-loop-list l = SettledFrom l.switches l.fn.lists.items l.lists.items

abbrev pub decreases-loop-list : goal.decreases-loop-list
decreases-loop-list l = vec_len l.lists
