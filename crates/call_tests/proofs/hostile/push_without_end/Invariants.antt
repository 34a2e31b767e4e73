use Rattle.std.proofs.Common.{◌≤◌, length}
use Rattle.call_tests.proofs.hostile.push_without_end.Given as goal

-- each turn asked once more
abbrev pub invariant-loop-i : goal.invariant-loop-i
invariant-loop-i l = l._i ≤ length l.asks
