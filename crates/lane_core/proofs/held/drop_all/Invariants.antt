-- The loop of `drop_all`.
use Rattle.std.proofs.Common.{◌≡◌, ◌++◌, length}
use Rattle.stage_core.specs.Held.{told}
use Rattle.stream_model.specs.Outlook.{unended}
use Rattle.lane_core.proofs.held.drop_all.Given as goal

abbrev pub invariant-loop-e : goal.invariant-loop-e
invariant-loop-e l = (l.lost.items ++ told l.held.items unended ≡ l.initial.lost.items ++ told l.initial.held.items unended) × (l.held.capacity ≡ l.initial.held.capacity)

abbrev pub decreases-loop-e : goal.decreases-loop-e
decreases-loop-e l = length l.held.items
