use Rattle.std.proofs.Common.{ap, refl}
use Rattle.stage_core.specs.declared.phase.Phase.TheVariants.{Closed}
use Rattle.stage_dropping.specs.Droppings.{Dropping, closed, fails}
use Rattle.stage_dropping.proofs.DropSteps.{going_on}
use Rattle.stage_dropping.proofs.dropping.Dropping.settle.Goals as goal

pub returns-then-not-is_open-clause-settling : goal.returns-then-not-is_open-clause-settling
returns-then-not-is_open-clause-settling c = closed (c.is_open.ensures.no c.if-not-is_open.true) refl refl

pub returns-in-Fails-clause-settling : goal.returns-in-Fails-clause-settling
returns-in-Fails-clause-settling c = fails c.in-Fails.cause (c.is_open.ensures.yes c.if-not-is_open.false) c.in-Fails.ensures.0 c.in-Fails.ensures.1 (ap (λ (l : Dropping). record l { phase = Closed }) c.self.view_is) (ap (λ a. a.items) c.add.ensures)

pub returns-in-GoesOn-clause-settling : goal.returns-in-GoesOn-clause-settling
returns-in-GoesOn-clause-settling c = going_on c.args.self.now c.go_on.new.self c.args.acts.now.items c.go_on.new.acts.items (c.is_open.ensures.yes c.if-not-is_open.false) c.in-GoesOn.ensures c.go_on.ensures.acts c.go_on.ensures.halts c.go_on.ensures.goes
