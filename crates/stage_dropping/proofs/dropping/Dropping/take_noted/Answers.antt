use Rattle.std.proofs.Common.{subst}
use Rattle.stage_dropping.specs.Droppings.{Took}
use Rattle.stage_dropping.proofs.DropSteps.{noted_fit}
use Rattle.stage_dropping.proofs.dropping.Dropping.take_noted.Goals as goal

pub returns-else-not-take_in-clause-took : goal.returns-else-not-take_in-clause-took
returns-else-not-take_in-clause-took c = noted_fit c.args.e c.args.self.now c.count.new.self c.take_in.new.self c.args.acts.now.items c.count.ensures (subst (λ b. Took b c.count.new.self c.args.e c.take_in.new.self) c.if-not-take_in.false c.take_in.ensures)
