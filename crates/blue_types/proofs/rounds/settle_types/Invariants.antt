use Rattle.blue_types.proofs.Settling.{Settles}
use Rattle.blue_types.proofs.rounds.settle_types.Given as goal

abbrev pub invariant-rounds : goal.invariant-rounds
invariant-rounds l = Settles l.library l.net l.types.items l.front.items l.counter
