use Rattle.std.proofs.Common.{take}
use Rattle.line_chain.proofs.Lines.{Begun}
use Rattle.line_chain.proofs.line.begin_all.Given as goal

abbrev pub invariant-loop-step : goal.invariant-loop-step
invariant-loop-step l = Begun l.node (take l.step-index l.steps) l.begun.items
