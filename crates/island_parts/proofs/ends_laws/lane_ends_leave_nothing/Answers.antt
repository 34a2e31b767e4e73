use Rattle.island_parts.proofs.Behind.{sinks_behind, readers_behind, writers_behind, picks_behind, seats_behind}
use Rattle.island_parts.proofs.ends_laws.lane_ends_leave_nothing.Goals as goal

pub returns-clause-sinks : goal.returns-clause-sinks
returns-clause-sinks g c = sinks_behind

pub returns-clause-readers : goal.returns-clause-readers
returns-clause-readers g c = readers_behind

pub returns-clause-writers : goal.returns-clause-writers
returns-clause-writers g c = writers_behind

pub returns-clause-picks : goal.returns-clause-picks
returns-clause-picks g c = picks_behind

pub returns-clause-seats : goal.returns-clause-seats
returns-clause-seats g c = seats_behind
