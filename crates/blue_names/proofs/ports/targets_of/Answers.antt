use Rattle.blue_names.specs.Links.{wire_of_link}
use Rattle.blue_names.proofs.PortTables.{FindsWires-at}
use Rattle.blue_names.proofs.ports.targets_of.Goals as goal

pub loop-i-preserved : goal.loop-i-preserved
loop-i-preserved c = FindsWires-at wire_of_link c.loop-i.table c.note_port.new.table c.args.links.now c.loop-i.i _ c.loop-i-test.true c.in_ok-note_port.ensures c.loop-i.invariant
