use Rattle.elem_core.specs.declared.item.Item.TheVariants as item
use Rattle.stage_out.proofs.Comings.{coming_going, finished, few_brought}
use Rattle.stage_out.proofs.balancing.Balancing.on_finish.Goals as goal

pub finish-requires-clause-few : goal.finish-requires-clause-few
finish-requires-clause-few c = few_brought c.args.self.now c.args.port item.Ended (coming_going c.args.self.now c.args.port (item.Ended) c.requires.live c.requires.meets) c.requires.meets

pub returns-clause-ports : goal.returns-clause-ports
returns-clause-ports c = (finished c.args.self.now c.finish.new.self c.finish.new.acts.items c.args.port (coming_going c.args.self.now c.args.port (item.Ended) c.requires.live c.requires.meets) c.requires.meets c.finish.ensures.ended).ports

pub returns-clause-gives : goal.returns-clause-gives
returns-clause-gives c = (finished c.args.self.now c.finish.new.self c.finish.new.acts.items c.args.port (coming_going c.args.self.now c.args.port (item.Ended) c.requires.live c.requires.meets) c.requires.meets c.finish.ensures.ended).gives
