use Rattle.std.proofs.Common.{◌≡◌, ◌≤◌, ◌++◌, length, drop, take}
use Rattle.graph_stage.specs.Standing.{without_taken_back}
use Rattle.graph_stage.proofs.carrying.take_back.Given as goal

-- those that were looked at stand behind the others, but for those that were taken back
abbrev pub invariant-loop-i : goal.invariant-loop-i
invariant-loop-i l = record {
  items : l.acts.items ≡ drop l._i l.initial.acts.items ++ without_taken_back l.sight (take l._i l.initial.acts.items);
  fits : length l.acts.items ≤ l.acts.room;
  room : l.acts.room ≡ l.initial.acts.room;
}
