use Rattle.stage_dropping.proofs.DropCalls.{Handled, starts_so}
use Rattle.stage_dropping.proofs.dropping.Dropping.start.Goals as goal

pub returns-clause-ports : goal.returns-clause-ports
returns-clause-ports c = (starts_so c.args.self.now c.open.new.self c.settle.new.self c.args.acts.now.items c.settle.new.acts.items c.requires.new c.requires.meets c.open.ensures c.requires.empty c.settle.ensures.settling).ports

pub returns-clause-gives : goal.returns-clause-gives
returns-clause-gives c = (starts_so c.args.self.now c.open.new.self c.settle.new.self c.args.acts.now.items c.settle.new.acts.items c.requires.new c.requires.meets c.open.ensures c.requires.empty c.settle.ensures.settling).gives
