use Rattle.stage_merge.proofs.Mergers.{started, new_waits, few_new}
use Rattle.stage_merge.proofs.merging.Merging.start.Goals as goal

pub begin-requires-clause-few : goal.begin-requires-clause-few
begin-requires-clause-few c = few_new c.args.self.now (new_waits c.args.self.now c.requires.new c.requires.meets) c.requires.meets

pub returns-clause-ports : goal.returns-clause-ports
returns-clause-ports c = (started c.args.self.now c.begin.new.self c.begin.new.acts.items (new_waits c.args.self.now c.requires.new c.requires.meets) c.requires.meets c.begin.ensures.does).ports

pub returns-clause-gives : goal.returns-clause-gives
returns-clause-gives c = (started c.args.self.now c.begin.new.self c.begin.new.acts.items (new_waits c.args.self.now c.requires.new c.requires.meets) c.requires.meets c.begin.ensures.does).gives
