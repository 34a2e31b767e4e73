use Rattle.std.proofs.Common.{subst}
use Rattle.stage_dropping.specs.Droppings.{give_first, Giving}
use Rattle.stage_dropping.proofs.dropping.Dropping.give_then_take.Goals as goal

pub returns-clause-served : goal.returns-clause-served
returns-clause-served c = give_first c.give.new.self c.give.new.acts.items c.requires.none (subst (λ l. Giving c.args.self.now c.give.new.self l c.give.new.acts.items) c.requires.empty c.give.ensures.giving) c.take_waiting.ensures.taking
