-- The loop of `trace::gather`.
use Rattle.std.proofs.Common.{◌≡◌, ◌+◌, ◌≤◌, ◌++◌, length, take, drop, vec_len, vec_capacity}
use Rattle.run_report.proofs.trace.gather.Given as goal

-- the first bytes of the piece were gathered, and there is room for the rest
abbrev pub invariant-loop-byte : goal.invariant-loop-byte
invariant-loop-byte l =
    (l.gathered.items ≡ l.initial.gathered.items ++ take l.byte-index l.piece)
    × (vec_len l.gathered + length (drop l.byte-index l.piece) ≤ vec_capacity l.gathered)
