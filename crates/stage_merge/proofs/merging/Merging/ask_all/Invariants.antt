use Rattle.std.proofs.Common.{◌≡◌, ◌≤◌, ◌++◌, ◌+◌, length, drop}
use Rattle.stage_merge.specs.Mergings.{pull_acts}
use Rattle.stage_merge.proofs.merging.Merging.ask_all.Given as goal

abbrev pub invariant-loop-i : goal.invariant-loop-i
invariant-loop-i l = record {
  rest : l.acts.items ++ pull_acts l.i (drop l.i l.self.core.over) ≡ l.initial.acts.items ++ pull_acts 0 l.self.core.over;
  room : l.acts.room ≡ l.initial.acts.room;
  fits : length l.acts.items ≤ length l.initial.acts.items + l.i;
}
