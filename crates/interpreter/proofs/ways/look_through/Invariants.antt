-- The loop of `ways::look_through`.
use Rattle.std.proofs.Common.{◌≡◌, ◌≢◌, ◌<◌, ℕ, Some, slice_get}
use Rattle.interpreter.specs.declared.ways.LanePlace.{LanePlace}
use Rattle.interpreter.proofs.ways.look_through.Given as goal

abbrev pub invariant-loop-i : goal.invariant-loop-i
invariant-loop-i l = (j : ℕ) (x : LanePlace) → j < l.i → slice_get l.lanes j ≡ Some x → x.wire ≢ l.wire
