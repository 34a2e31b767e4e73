use Rattle.stage_dropping.specs.Droppings.{end_of}
use Rattle.stage_dropping.proofs.DropSteps.{settled_from}
use Rattle.stage_dropping.proofs.dropping.Dropping.end.Goals as goal

pub returns-then-not-is_stuck-clause-settles : goal.returns-then-not-is_stuck-clause-settles
returns-then-not-is_stuck-clause-settles c = λ calm. settled_from _ c.args.self.now (end_of c.args.after) c.settle.new.self c.args.acts.now.items c.settle.new.acts.items c.self.view_is c.requires.empty c.settle.ensures.settling
