use Rattle.interpreter.specs.declared.island.IslandEnd.{IslandEnd}
use Rattle.island_parts.proofs.EndsJoining.{join_shares}
use Rattle.island_parts.proofs.join.join_handles.Goals as goal

pub gather-readers-requires-clause-whole : goal.gather-readers-requires-clause-whole
gather-readers-requires-clause-whole g c = let r = c.requires.ends in let h = r.1.1 in (join_shares (λ (e : IslandEnd _ _). e.readers) c.args.ends.items c.args.homes.now.readers.items r.0 h.readers_below h.readers_each h.reader_shares _ c.deref.ensures.value _ c.sort-lists.ensures.readers).0

pub gather-writers-requires-clause-whole : goal.gather-writers-requires-clause-whole
gather-writers-requires-clause-whole g c = let r = c.requires.ends in let h = r.1.1 in (join_shares (λ (e : IslandEnd _ _). e.writers) c.args.ends.items c.args.homes.now.writers.items r.1.0 h.writers_below h.writers_each h.writer_shares _ c.deref-2.ensures.value _ c.sort-lists.ensures.writers).0

pub returns-clause-readers : goal.returns-clause-readers
returns-clause-readers g c = λ readers writers h. (join_shares (λ (e : IslandEnd _ _). e.readers) c.args.ends.items c.args.homes.now.readers.items readers h.readers_below h.readers_each h.reader_shares _ c.deref.ensures.value _ c.sort-lists.ensures.readers).1 _ c.gather-readers.ensures

pub returns-clause-writers : goal.returns-clause-writers
returns-clause-writers g c = λ readers writers h. (join_shares (λ (e : IslandEnd _ _). e.writers) c.args.ends.items c.args.homes.now.writers.items writers h.writers_below h.writers_each h.writer_shares _ c.deref-2.ensures.value _ c.sort-lists.ensures.writers).1 _ c.gather-writers.ensures
