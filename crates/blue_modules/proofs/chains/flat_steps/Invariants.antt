use Rattle.std.proofs.Common.{◌≡◌, take, map}
use Rattle.blue_modules.specs.Flatten.{flat_step}
use Rattle.blue_modules.proofs.chains.flat_steps.Given as goal

abbrev pub invariant-loop-step : goal.invariant-loop-step
invariant-loop-step l = l.flat.items ≡ map (flat_step l.around) (take l.step-index l.steps)
