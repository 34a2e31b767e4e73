use Rattle.std.proofs.Common.{◌≡◌, ◌∙◌, ap, subst}
use Rattle.port_core.specs.ActList.{ActList}
use Rattle.stage_linear.specs.Workers.{work_by, ready_by}
use Rattle.stage_linear.specs.States.{Logic}
use Rattle.stage_linear.specs.Outcomes.{working, answer_acts, CameTo}
use Rattle.stage_linear.specs.Pending.{outputs_in}
use Rattle.stage_linear.proofs.logic.LinearLogic.react.Goals as goal

pub returns-clause-came : goal.returns-clause-came
returns-clause-came g c =
    let x = c.self.inside in
    let l : Logic = record { phase = x.phase; stage = record { node = x.node; decider = x.decider; taken = x.taken; work = work_by x.worker }; pending = outputs_in x.pending; course = x.course; ready = ready_by x.worker } in
    let is : l ≡ c.args.self.now = c.self.view_is ∙ c.take_list-out.ensures.same in
    let a : c.answer.new.acts.items ≡ answer_acts (working l (work_by c.react.new.self) (ready_by c.react.new.self)) c.args.taken c.in_ok-outcome.outcome = ap (λ (y : ActList). y.items) c.answer.ensures.acts in
    subst (λ (y : Logic). CameTo g.B.PlugBook.lists y c.args.taken c.args.e c.answer.new.acts.items c.answer.new.self) is (record {
      work = work_by c.react.new.self;
      ready = ready_by c.react.new.self;
      outcome = c.in_ok-outcome.outcome;
      reacted = c.in_ok-outcome.ensures.reacts;
      stays = c.in_ok-outcome.ensures.ready;
      stands = c.answer.ensures.stage;
      acted = a;
    })
