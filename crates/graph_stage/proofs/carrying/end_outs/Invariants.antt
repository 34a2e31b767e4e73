use Rattle.std.proofs.Common.{◌≡◌, ◌++◌, ◌+◌, ◌≤◌, length, drop}
use Rattle.graph_stage.specs.OwnView.{outs_ended}
use Rattle.graph_stage.proofs.carrying.end_outs.Given as goal

abbrev pub invariant-loop-j : goal.invariant-loop-j
invariant-loop-j l = record {
  rest : l.acts.items ++ outs_ended l.end l.j (drop l.j l.outs) ≡ l.initial.acts.items ++ outs_ended l.end 0 l.outs;
  room : l.acts.room ≡ l.initial.acts.room;
  fits : length l.acts.items + length (outs_ended l.end l.j (drop l.j l.outs)) ≤ l.acts.room;
}
