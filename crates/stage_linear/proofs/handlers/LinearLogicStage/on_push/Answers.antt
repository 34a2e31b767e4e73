use Rattle.std.proofs.Common.{ap, subst}
use Rattle.port_core.specs.ActList.{ActList}
use Rattle.step_work.specs.Tasks.{outcome_of}
use Rattle.stage_core.proofs.OnOks.{on_ok_two}
use Rattle.stage_linear.specs.States.{Logic}
use Rattle.stage_linear.specs.Outcomes.{CameTo}
use Rattle.stage_linear.proofs.Pushes.{came_said}
use Rattle.stage_linear.proofs.Handling.{handles_came}
use Rattle.stage_linear.proofs.handlers.LinearLogicStage.on_push.Goals as goal

pub returns-in-Some-clause-handles : goal.returns-in-Some-clause-handles
returns-in-Some-clause-handles g c =
    handles_came g.B.PlugBook.lists c.args._port c.args.e c.in_ok-taken.taken _ _ _ c.requires.meets c.in_ok-taken.ensures
    (came_said g.B.PlugBook.lists _ _ _ _ c.args.e c.in_ok-taken.taken (outcome_of c.in-Some.said c.args.e) c.in-Some.ensures.said c.answer_at_once.ensures.stage (ap (λ (y : ActList). y.items) c.answer_at_once.ensures.acts))

pub returns-in-None-clause-handles : goal.returns-in-None-clause-handles
returns-in-None-clause-handles g c =
    on_ok_two c.react.result c.react.ensures.came c.react.ensures.came
    (λ r s. handles_came g.B.PlugBook.lists c.args._port c.args.e c.in_ok-taken.taken _ _ _ c.requires.meets c.in_ok-taken.ensures
    (subst (λ (l : Logic). CameTo g.B.PlugBook.lists l c.in_ok-taken.taken c.args.e c.react.new.acts.items c.react.new.self) c.in-None.ensures.unsaid r))
