use Rattle.elem_core.specs.declared.item.Item.TheVariants as item
use Rattle.stage_out.proofs.Comings.{coming_going, failed_on, few_brought}
use Rattle.stage_out.proofs.balancing.Balancing.on_fail.Goals as goal

pub fail-requires-clause-few : goal.fail-requires-clause-few
fail-requires-clause-few c = few_brought c.args.self.now c.args.port (item.Failed c.args.cause) (coming_going c.args.self.now c.args.port (item.Failed c.args.cause) c.requires.live c.requires.meets) c.requires.meets

pub returns-clause-ports : goal.returns-clause-ports
returns-clause-ports c = (failed_on c.args.self.now c.fail.new.self c.fail.new.acts.items c.args.port c.args.cause (coming_going c.args.self.now c.args.port (item.Failed c.args.cause) c.requires.live c.requires.meets) c.requires.meets c.fail.ensures.does).ports

pub returns-clause-gives : goal.returns-clause-gives
returns-clause-gives c = (failed_on c.args.self.now c.fail.new.self c.fail.new.acts.items c.args.port c.args.cause (coming_going c.args.self.now c.args.port (item.Failed c.args.cause) c.requires.live c.requires.meets) c.requires.meets c.fail.ensures.does).gives
