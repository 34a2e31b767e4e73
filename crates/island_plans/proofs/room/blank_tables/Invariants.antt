-- The loop of `room::blank_tables`.
use Rattle.island_plans.proofs.Tables.{TablesTo}
use Rattle.island_plans.proofs.room.blank_tables.Given as goal

-- the tables of the islands so far
abbrev pub invariant-loop-count : goal.invariant-loop-count
invariant-loop-count l = TablesTo l.counts l.count-index l.tables.items
