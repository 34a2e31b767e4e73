-- The values of which the step in `turns::Turns::begin` tells.
use Rattle.dispatcher.proofs.turns.Turns.begin.Given as goal

abbrev pub ghosts-take_out : goal.ghosts-take_out
ghosts-take_out g a = record { values = a.self.now.table.shared.key.values.value.items }
