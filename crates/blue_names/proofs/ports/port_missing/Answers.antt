use Rattle.blue_names.proofs.InRange.{in_range_end}
use Rattle.blue_names.proofs.ports.port_missing.Goals as goal

pub returns-clause-in_range : goal.returns-clause-in_range
returns-clause-in_range c = in_range_end c.args.heads.now c.args.nodes.now c.args.links.now c.loop-i.i c.loop-i-test.false c.loop-i.invariant
