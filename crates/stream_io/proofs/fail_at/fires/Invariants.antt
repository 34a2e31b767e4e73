-- With no call to fail, none did.
use Rattle.std.proofs.Common.{◌≡◌, false, [], length}
use Rattle.stream_io.proofs.fail_at.fires.Given as goal

abbrev pub invariant-loop-i : goal.invariant-loop-i
invariant-loop-i l = (length l.fails ≡ length l.initial.fails) × (l.initial.fails ≡ [] → l.fires ≡ false)
