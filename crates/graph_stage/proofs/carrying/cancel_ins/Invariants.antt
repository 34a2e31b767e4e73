use Rattle.std.proofs.Common.{◌≡◌, ◌++◌, ◌+◌, ◌≤◌, length, drop}
use Rattle.graph_stage.specs.OwnView.{ins_cancelled}
use Rattle.graph_stage.proofs.carrying.cancel_ins.Given as goal

abbrev pub invariant-loop-i : goal.invariant-loop-i
invariant-loop-i l = record {
  rest : l.acts.items ++ ins_cancelled l.i (drop l.i l.ins) ≡ l.initial.acts.items ++ ins_cancelled 0 l.ins;
  room : l.acts.room ≡ l.initial.acts.room;
  fits : length l.acts.items + length (ins_cancelled l.i (drop l.i l.ins)) ≤ l.acts.room;
}
