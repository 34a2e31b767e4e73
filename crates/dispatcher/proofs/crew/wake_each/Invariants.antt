-- The loop of `crew::wake_each`.
use Rattle.dispatcher.specs.PublicTurns.{IsFree}
use Rattle.dispatcher.proofs.crew.wake_each.Given as goal

abbrev pub invariant-loop-id : goal.invariant-loop-id
invariant-loop-id g l = IsFree l.fn.turns l.seat
