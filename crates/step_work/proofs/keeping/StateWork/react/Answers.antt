use Rattle.step_work.proofs.keeping.StateWork.react.Goals as goal

pub returns-in-Some : goal.returns-in-Some
returns-in-Some c = rw c.reaction.ensures (c.in-Some.ensures.said c.args.decider)

pub returns-in-None : goal.returns-in-None
returns-in-None c = rw c.in-None.ensures.unsaid at c.react_by_step.ensures
