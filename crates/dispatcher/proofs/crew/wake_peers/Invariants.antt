-- The loop of `crew::wake_peers`.
use Rattle.std.proofs.Common.{◌≡◌}
use Rattle.dispatcher.specs.PublicTurns.{IsSeatOf, held_turns}
use Rattle.dispatcher.proofs.crew.wake_peers.Given as goal

abbrev pub invariant-loop-i : goal.invariant-loop-i
invariant-loop-i g l = IsSeatOf l.fn.turns l.seat × (held_turns l.seat ≡ held_turns l.fn.seat)
