-- The goals of `handlers::LinearLogicStage::push_at_once` that the search leaves.
use Rattle.step_work.specs.Tasks.{outcome_of}
use Rattle.stage_linear.proofs.Pushes.{came_said}
use Rattle.stage_linear.proofs.Handling.{handles_came, reacts_by}
use Rattle.stage_linear.proofs.handlers.LinearLogicStage.push_at_once.Goals as goal

pub returns-in-Some-clause-gives : goal.returns-in-Some-clause-gives
returns-in-Some-clause-gives g c = λ is. reacts_by g.B.PlugBook.lists _ _ _ _ (handles_came g.B.PlugBook.lists c.args._port c.args._e.now c.in-Ok.taken _ _ _ c.requires.meets c.in-Ok.ensures (came_said g.B.PlugBook.lists _ _ _ _ c.args._e.now c.in-Ok.taken (outcome_of c.in-Some.said c.args._e.now) c.in-Some.ensures.said c.answer_in_place.ensures.stage (c.answer_in_place.ensures.gives is)))

pub returns-in-Some-clause-asks : goal.returns-in-Some-clause-asks
returns-in-Some-clause-asks g c = λ is. reacts_by g.B.PlugBook.lists _ _ _ _ (handles_came g.B.PlugBook.lists c.args._port c.args._e.now c.in-Ok.taken _ _ _ c.requires.meets c.in-Ok.ensures (came_said g.B.PlugBook.lists _ _ _ _ c.args._e.now c.in-Ok.taken (outcome_of c.in-Some.said c.args._e.now) c.in-Some.ensures.said c.answer_in_place.ensures.stage (c.answer_in_place.ensures.asks is)))

pub returns-in-Some-clause-acts : goal.returns-in-Some-clause-acts
returns-in-Some-clause-acts g c = λ is. reacts_by g.B.PlugBook.lists _ _ _ _ (handles_came g.B.PlugBook.lists c.args._port c.args._e.now c.in-Ok.taken _ _ _ c.requires.meets c.in-Ok.ensures (came_said g.B.PlugBook.lists _ _ _ _ c.args._e.now c.in-Ok.taken (outcome_of c.in-Some.said c.args._e.now) c.in-Some.ensures.said c.answer_in_place.ensures.stage (c.answer_in_place.ensures.acts is)))
