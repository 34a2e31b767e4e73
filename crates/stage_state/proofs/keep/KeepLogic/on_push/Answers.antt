use Rattle.std.proofs.Common.{◌≡◌, ap, sym, subst, refl}
use Rattle.port_core.specs.ActList.{ActList}
use Rattle.port_core.specs.Call.{Meets, arrives}
use Rattle.elem_core.specs.declared.item.Item.TheVariants as item
use Rattle.stage_core.specs.declared.phase.Phase.TheVariants.{Open}
use Rattle.step_work.specs.Keeping.{work_in}
use Rattle.stage_state.specs.States.{Logic, port_state, Turned}
use Rattle.stage_state.specs.Outcomes.{working, answer_acts}
use Rattle.stage_state.specs.contracts.keep.KeepLogic.{the_view}
use Rattle.stage_state.proofs.Pushes.{waits, pushed}
use Rattle.stage_state.proofs.keep.KeepLogic.on_push.Goals as goal

pub returns-clause-gives : goal.returns-clause-gives
returns-clause-gives c =
    let l : Logic = the_view c.self.inside in
    let is : l ≡ c.args.self.now = c.self.view_is in
    let on : l.phase ≡ Open = subst (λ (x : Logic). x.phase ≡ Open) (sym is) c.requires.open in
    let meets : Meets (arrives 0 (item.Elem c.args.e)) (port_state l) = subst (λ (x : Logic). Meets (arrives 0 (item.Elem c.args.e)) (port_state x)) (sym is) c.requires.meets in
    let w = work_in c.react.new.self in
    let p = pushed l w c.args.e c.in_ok-taken.taken c.in_ok-outcome.outcome on refl (waits l c.args.e on refl meets) c.in_ok-taken.ensures c.in_ok-outcome.ensures in
    let a : c.answer.new.acts.items ≡ answer_acts (working l w) c.in_ok-taken.taken c.in_ok-outcome.outcome = ap (λ (x : ActList). x.items) c.answer.ensures.acts in
    let b = c.answer.ensures.stage in
    subst (λ (x : Logic). Turned (arrives 0 (item.Elem c.args.e)) x c.answer.new.acts.items c.answer.new.self) is (rw (a, b) p)
