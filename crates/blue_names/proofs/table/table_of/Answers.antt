use Rattle.blue_names.proofs.NameTables.{Numbers-more}
use Rattle.blue_names.proofs.table.table_of.Goals as goal

pub loop-i-preserved : goal.loop-i-preserved
loop-i-preserved g c =
    Numbers-more g.T.Named.text c.loop-i.table c.note_name.new.table c.args.items.now c.loop-i.i c.index-items-i.result c.name.result.now c.loop-i-test.true c.index-items-i.is c.name.ensures c.loop-i.invariant c.in_ok-note_name.ensures.noted
