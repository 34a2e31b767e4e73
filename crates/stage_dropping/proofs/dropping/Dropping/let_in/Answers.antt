use Rattle.stage_dropping.proofs.DropCalls.{serving_few}
use Rattle.stage_dropping.proofs.DropEnters.{enters_off, lets_so}
use Rattle.stage_dropping.proofs.dropping.Dropping.let_in.Goals as goal

pub take_up-requires-clause-enters : goal.take_up-requires-clause-enters
take_up-requires-clause-enters c = enters_off c.args.self.now c.arrived.new.self c.requires.enters c.arrived.ensures

pub returns-clause-answered : goal.returns-clause-answered
returns-clause-answered c = lets_so c.args.self.now c.arrived.new.self c.take_up.new.self c.settle.new.self c.args.e c.take_up.new.acts.items c.settle.new.acts.items c.arrived.ensures c.take_up.ensures.served c.settle.ensures.settling
