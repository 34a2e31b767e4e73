use Rattle.std.proofs.Common.{◌≡◌, ◌≤◌, ◌+◌, ◌++◌, length}
use Rattle.graph_stage.specs.OwnView.{carried_out}
use Rattle.graph_stage.specs.Room.{acts_to_come, FewPorts}
use Rattle.graph_stage.proofs.carrying.answer.Given as goal

abbrev pub invariant-loop-ask : goal.invariant-loop-ask
invariant-loop-ask l = record {
  rest : l.acts.items ++ (carried_out l.types.items l.occasion l.sight l.asks).acts ≡ l.initial.acts.items ++ (carried_out l.types.items l.occasion l.initial.sight l.initial.asks).acts;
  sees : (carried_out l.types.items l.occasion l.sight l.asks).sight ≡ (carried_out l.types.items l.occasion l.initial.sight l.initial.asks).sight;
  few : FewPorts l.sight;
  fits : length l.acts.items + acts_to_come l.sight ≤ l.acts.room;
  room : l.acts.room ≡ l.initial.acts.room;
}

abbrev pub decreases-loop-ask : goal.decreases-loop-ask
decreases-loop-ask l = length l.asks
