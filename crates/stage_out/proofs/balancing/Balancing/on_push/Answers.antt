use Rattle.elem_core.specs.declared.item.Item.TheVariants as item
use Rattle.stage_out.proofs.Comings.{coming_going, took, took_may, first_served}
use Rattle.stage_out.proofs.balancing.Balancing.on_push.Goals as goal

pub deal-requires-clause-may : goal.deal-requires-clause-may
deal-requires-clause-may c = took_may c.args.self.now c.make_room.new.self c.unask.new.self c.args.port c.args.e (coming_going c.args.self.now c.args.port (item.Elem c.args.e) c.requires.live c.requires.meets) c.make_room.ensures.kept c.in_ok-make_room.ensures.room c.unask.ensures c.requires.meets

pub returns-clause-ports : goal.returns-clause-ports
returns-clause-ports c = (took c.args.self.now c.make_room.new.self c.unask.new.self c.deal.new.self c.deal.new.acts.items c.args.port c.args.e (coming_going c.args.self.now c.args.port (item.Elem c.args.e) c.requires.live c.requires.meets) c.make_room.ensures.kept c.unask.ensures c.requires.meets c.deal.ensures.deals).ports

pub returns-clause-gives : goal.returns-clause-gives
returns-clause-gives c = (took c.args.self.now c.make_room.new.self c.unask.new.self c.deal.new.self c.deal.new.acts.items c.args.port c.args.e (coming_going c.args.self.now c.args.port (item.Elem c.args.e) c.requires.live c.requires.meets) c.make_room.ensures.kept c.unask.ensures c.requires.meets c.deal.ensures.deals).gives

pub returns-clause-order : goal.returns-clause-order
returns-clause-order c = first_served c.args.self.now c.make_room.new.self c.unask.new.self c.deal.new.self c.deal.new.acts.items c.args.e c.make_room.ensures.kept c.unask.ensures c.deal.ensures.deals
