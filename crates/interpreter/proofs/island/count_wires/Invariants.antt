-- The loop of `island::count_wires`.
use Rattle.std.proofs.Common.{◌≡◌, take, vec_len, vec_capacity}
use Rattle.interpreter.specs.Island.{counts_of}
use Rattle.interpreter.proofs.island.count_wires.Given as goal

-- so many were counted, and there is as much room as there was
abbrev pub invariant-loop-i : goal.invariant-loop-i
invariant-loop-i l =
    (l.counts.items ≡ counts_of (take l.i l.fn.numbers) (take l.i l.fn.wires))
    × (vec_len l.counts ≡ l.i)
    × (vec_capacity l.counts ≡ vec_capacity l.initial.counts)
