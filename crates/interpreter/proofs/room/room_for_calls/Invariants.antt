-- The loop of `room::room_for_calls`.
use Rattle.std.proofs.Common.{◌≡◌, ℕ, ◌+◌, ◌*◌, ◌<◌, ◌≤◌}
use Rattle.stage_core.specs.declared.stage.TheConstants.{LEAST_ACTS}
use Rattle.interpreter.specs.Parts.{input_count_at, output_count_at}
use Rattle.interpreter.proofs.room.room_for_calls.Given as goal

abbrev pub invariant-loop-n : goal.invariant-loop-n
invariant-loop-n l = (LEAST_ACTS ≤ l.room) × ((k : ℕ) → k < l.n → 2 * (input_count_at l.fn.places k + output_count_at l.fn.places k) ≤ l.room)
