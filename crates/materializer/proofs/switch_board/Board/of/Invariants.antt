-- The loop of `board::Board::of`.
use Rattle.materializer.proofs.Dealt.{MadeTo}
use Rattle.materializer.proofs.switch_board.Board.of.Given as goal

-- the places so far
abbrev pub invariant-loop-j : goal.invariant-loop-j
invariant-loop-j l = MadeTo l.places.items l.j l.switches.items l.seats.items l.ends.items
