use Rattle.std.proofs.Common.{◌≡◌, ◌-◌, [], length}
use Rattle.line_chain.specs.Steps.{end_of}
use Rattle.line_chain.proofs.Running.{Half}
use Rattle.line_chain.proofs.line.run_all.Given as goal

abbrev pub invariant-loop-i : goal.invariant-loop-i
invariant-loop-i l = Half l.fn.steps.items l.fn.inputs (end_of l.fn.ending) l.i l.steps.items l.inputs (end_of l.ending) × (l.outputs ≡ [])

abbrev pub decreases-loop-i : goal.decreases-loop-i
decreases-loop-i l = length l.steps.items - l.i
