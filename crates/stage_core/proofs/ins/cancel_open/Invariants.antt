use Rattle.std.proofs.Common.{◌≡◌, ◌≤◌, ◌++◌, ◌+◌, length, drop}
use Rattle.stage_core.specs.Seats.{open_cancels}
use Rattle.stage_core.proofs.ins.cancel_open.Given as goal

abbrev pub invariant-loop-i : goal.invariant-loop-i
invariant-loop-i l = record {
  rest : l.acts.items ++ open_cancels l.i (drop l.i l.over) ≡ l.initial.acts.items ++ open_cancels 0 l.over;
  room : l.acts.room ≡ l.initial.acts.room;
  fits : length l.acts.items ≤ length l.initial.acts.items + l.i;
}
