use Rattle.std.proofs.Common.{◌∙◌, arith}
use Rattle.std.proofs.lemmas.List.{length-map}
use Rattle.interpreter.specs.declared.island.IslandEnd.{IslandEnd}
use Rattle.island_parts.proofs.Misfits.{join_misfits}
use Rattle.island_parts.proofs.EndsJoining.{join_sinks, join_cut, join_picks, join_seats, join_readers, join_writers}
use Rattle.island_parts.proofs.join.join_ends.Goals as goal

pub gather-requires-clause-whole : goal.gather-requires-clause-whole
gather-requires-clause-whole g c = let r = c.requires.ends in (join_sinks r.0 c.args.ends.items r.1 _ (c.deref-2.ensures.value ∙ r.2.sinks) _ c.sort-lists.ensures.sinks).0

pub gather-requires-2-clause-whole : goal.gather-requires-2-clause-whole
gather-requires-2-clause-whole g c = let r = c.requires.ends in (join_cut r.0 c.args.ends.items r.1 _ _ _ _ c.deref-3.ensures.value r.2.wires c.deref.ensures.value _ (let n = c.args.ends.ok.0 in omega (arith, n)) c.requires.room.counts_are c.sort-lists.result.wires c.cut.new.lists c.sort-lists.ensures.wires c.cut.ensures.length c.cut.ensures.items).0

pub gather-requires-3-clause-whole : goal.gather-requires-3-clause-whole
gather-requires-3-clause-whole g c = let r = c.requires.ends in (join_picks r.0 c.args.ends.items r.1 _ (c.deref-4.ensures.value ∙ r.2.picks) _ c.sort-lists.ensures.picks).0

pub gather-requires-4-clause-whole : goal.gather-requires-4-clause-whole
gather-requires-4-clause-whole g c = let r = c.requires.ends in (join_seats r.0 c.args.ends.items r.1 _ (c.deref-5.ensures.value ∙ r.2.seats) _ c.sort-lists.ensures.seats).0

pub gather-requires-5-clause-whole : goal.gather-requires-5-clause-whole
gather-requires-5-clause-whole g c = let r = c.requires.ends in (join_readers r.0 c.args.ends.items r.1 _ (c.deref-6.ensures.value ∙ r.2.readers) _ c.sort-lists.ensures.readers).0

pub gather-requires-6-clause-whole : goal.gather-requires-6-clause-whole
gather-requires-6-clause-whole g c = let r = c.requires.ends in (join_writers r.0 c.args.ends.items r.1 _ (c.deref-7.ensures.value ∙ r.2.writers) _ c.sort-lists.ensures.writers).0

pub returns : goal.returns
returns g c = λ w a h. record {
  sinks = (join_sinks w c.args.ends.items a _ (c.deref-2.ensures.value ∙ h.sinks) _ c.sort-lists.ensures.sinks).1 _ c.gather.ensures;
  wires = (join_cut w c.args.ends.items a _ _ _ _ c.deref-3.ensures.value h.wires c.deref.ensures.value _ (let n = c.args.ends.ok.0 in omega (arith, n)) c.requires.room.counts_are c.sort-lists.result.wires c.cut.new.lists c.sort-lists.ensures.wires c.cut.ensures.length c.cut.ensures.items).1 _ c.gather-2.ensures;
  picks = (join_picks w c.args.ends.items a _ (c.deref-4.ensures.value ∙ h.picks) _ c.sort-lists.ensures.picks).1 _ c.gather-3.ensures;
  misfit = join_misfits w c.args.ends.items a (length-map c.args.ends.items (λ (e : IslandEnd _ _). e.misfit)) _ c.sort-lists.ensures.misfit;
  seats = (join_seats w c.args.ends.items a _ (c.deref-5.ensures.value ∙ h.seats) _ c.sort-lists.ensures.seats).1 _ c.gather-4.ensures;
  readers = (join_readers w c.args.ends.items a _ (c.deref-6.ensures.value ∙ h.readers) _ c.sort-lists.ensures.readers).1 _ c.gather-5.ensures;
  writers = (join_writers w c.args.ends.items a _ (c.deref-7.ensures.value ∙ h.writers) _ c.sort-lists.ensures.writers).1 _ c.gather-6.ensures;
}
