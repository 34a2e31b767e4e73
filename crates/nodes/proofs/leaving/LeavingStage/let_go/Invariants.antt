-- The loop of `let_go` of a stage where a lane goes out.
use Rattle.std.proofs.Common.{◌≡◌, ◌++◌, length}
use Rattle.nodes.proofs.leaving.LeavingStage.let_go.Given as goal

abbrev pub invariant-loop-item : goal.invariant-loop-item
invariant-loop-item l = (l.self.gone ++ l.self.waits ≡ l.initial.self.gone ++ l.initial.self.waits) × (l.self.wire ≡ l.initial.self.wire)

abbrev pub decreases-loop-item : goal.decreases-loop-item
decreases-loop-item l = length l.self.waits
