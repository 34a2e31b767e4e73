-- The loop of `board::no_ends`.
use Rattle.std.proofs.Common.{◌≡◌, None, length}
use Rattle.std.specs.List.{All}
use Rattle.materializer.proofs.switch_board.no_ends.Given as goal

-- so many, none of which is there
abbrev pub invariant-loop : goal.invariant-loop
invariant-loop l = (length l.ends.items ≡ l.counter) × All (λ e. e ≡ None) l.ends.items
