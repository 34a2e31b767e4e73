-- The loop of `net::zeros`.
use Rattle.std.proofs.Common.{◌≡◌, length}
use Rattle.fused_net.proofs.net.zeros.Given as goal

abbrev pub invariant-loop-i : goal.invariant-loop-i
invariant-loop-i l = length l.xs.items ≡ l._i
