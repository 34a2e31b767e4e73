use Rattle.std.proofs.Common.{sym, ◌∙◌}
use Rattle.step_work.proofs.task.LinearWork.react.Goals as goal

pub returns-in-Some : goal.returns-in-Some
returns-in-Some c = rw c.reaction.ensures c.in-Some.ensures.said

pub returns-in-Map : goal.returns-in-Map
returns-in-Map c = rw (sym c.in_default.ensures.unsaid.0 ∙ c.in-Map.is) c.map.ensures

pub returns-in-TakeWhile : goal.returns-in-TakeWhile
returns-in-TakeWhile c = rw (sym c.in_default.ensures.unsaid.0 ∙ c.in-TakeWhile.is) c.take_while.ensures

pub returns-in-DropWhile : goal.returns-in-DropWhile
returns-in-DropWhile c = rw (sym c.in_default.ensures.unsaid.0 ∙ c.in-DropWhile.is) c.drop_while.ensures
