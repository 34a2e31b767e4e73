use Rattle.blue_modules.proofs.Naming.{ArePlaces-more}
use Rattle.blue_modules.proofs.entries.places_of.Goals as goal

pub loop-i-preserved : goal.loop-i-preserved
loop-i-preserved c =
    ArePlaces-more c.loop-i.places c.note_entry.new.places c.args.entries.now c.loop-i.i c.index-entries-i.result c.loop-i-test.true c.index-entries-i.is c.loop-i.invariant c.in_ok-note_entry.ensures
