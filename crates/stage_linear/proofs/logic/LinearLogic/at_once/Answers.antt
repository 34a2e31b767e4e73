use Rattle.std.specs.Prelude.{IfSome}
use Rattle.std.proofs.Common.{◌≡◌, subst}
use Rattle.stage_linear.specs.Workers.{work_by, ready_by}
use Rattle.stage_linear.specs.States.{Logic}
use Rattle.step_work.specs.Tasks.{outcome_of}
use Rattle.stage_linear.specs.Outcomes.{working, Said}
use Rattle.stage_linear.specs.Pending.{outputs_in}
use Rattle.stage_linear.proofs.Pushes.{said_of}
use Rattle.stage_linear.proofs.logic.LinearLogic.at_once.Goals as goal

pub returns-clause-said : goal.returns-clause-said
returns-clause-said g c =
    let x = c.self.inside in
    let t = c.args.e.now in
    let w = work_by c.at_once.new.self in
    let b = ready_by c.at_once.new.self in
    let l : Logic = record { phase = x.phase; stage = record { node = x.node; decider = x.decider; taken = x.taken; work = work_by x.worker }; pending = outputs_in x.pending; course = x.course; ready = ready_by x.worker } in
    let is : l ≡ c.args.self.now = c.self.view_is in
    subst (λ (y : Logic). IfSome c.at_once.result (λ s. Said g.B.PlugBook.lists y t (outcome_of s t) (working l w b))) is (said_of g.B.PlugBook.lists l w b t c.at_once.result c.at_once.ensures.ready c.at_once.ensures.reacts)
