use Rattle.std.proofs.Common.{subst}
use Rattle.stage_dropping.specs.Droppings.{take_first, TakesIn}
use Rattle.stage_dropping.proofs.DropSteps.{named_after, none_waits}
use Rattle.stage_dropping.proofs.dropping.Dropping.take_then_give.Goals as goal

pub give-requires-clause-named : goal.give-requires-clause-named
give-requires-clause-named c = named_after c.args.self.now c.take_waiting.new.self c.args.acts.now.items c.take_waiting.new.acts.items c.requires.named c.take_waiting.ensures.taking

pub returns-clause-served : goal.returns-clause-served
returns-clause-served c = take_first c.take_waiting.new.self c.take_waiting.new.acts.items (subst (λ l. TakesIn c.args.self.now c.take_waiting.new.self l c.take_waiting.new.acts.items) c.requires.empty c.take_waiting.ensures.taking) c.give.ensures.giving
    (λ p. none_waits c.args.self.now c.take_waiting.new.self c.args.acts.now.items c.take_waiting.new.acts.items c.requires.open.0 c.requires.open.1.0 c.take_waiting.ensures.taking p)
