-- The goals of `chases::longest_chase` that the search leaves.
use Rattle.call_tests.proofs.Islands.{last_island}
use Rattle.call_tests.proofs.chases.longest_chase.Goals as goal

pub start-requires-clause-parts : goal.start-requires-clause-parts
start-requires-clause-parts c = (last_island _ _ _ _ _ _ c.fill-filled.ensures.filled.0 c.in-Some.ensures.items).parts

pub start-requires-clause-room : goal.start-requires-clause-room
start-requires-clause-room c = (last_island _ _ _ _ _ _ c.fill-filled.ensures.filled.0 c.in-Some.ensures.items).room
