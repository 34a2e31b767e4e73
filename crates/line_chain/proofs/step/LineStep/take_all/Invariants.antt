use Rattle.std.proofs.Common.{◌≡◌, None, length}
use Rattle.stream_model.specs.Machine.{run}
use Rattle.line_chain.specs.Steps.{machine, state_of, Began}
use Rattle.line_chain.proofs.step.LineStep.take_all.Given as goal

-- what came of the elements so far, and then of those that are left, is what comes of all
abbrev pub invariant-loop-e : goal.invariant-loop-e
invariant-loop-e l =
    (run machine (record { gave = l.outputs; state = state_of l.self }) l.inputs ≡ run machine (record { gave = l.fn.outputs; state = state_of l.fn.self }) l.fn.inputs) × (Began l.fn.self l.self × (l.self.owed ≡ None))

abbrev pub decreases-loop-e : goal.decreases-loop-e
decreases-loop-e l = length l.inputs
