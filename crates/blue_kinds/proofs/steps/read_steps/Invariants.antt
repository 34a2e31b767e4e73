use Rattle.std.proofs.Common.{length}
use Rattle.blue_words.specs.Reading.{at_map}
use Rattle.blue_kinds.proofs.StepReading.{HasSteps}
use Rattle.blue_kinds.proofs.steps.read_steps.Given as goal

abbrev pub invariant-loop-step : goal.invariant-loop-step
invariant-loop-step l = HasSteps l.version l.fn.words (at_map (λ v. v.items) l.steps) l.words

abbrev pub decreases-loop-step : goal.decreases-loop-step
decreases-loop-step l = length l.words
