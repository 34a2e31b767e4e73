use Rattle.std.proofs.Common.{take}
use Rattle.line_chain.proofs.Lines.{Again}
use Rattle.line_chain.proofs.line.begin_again.Given as goal

abbrev pub invariant-loop-step : goal.invariant-loop-step
invariant-loop-step l = Again (take l.step-index l.steps) l.begun.items
