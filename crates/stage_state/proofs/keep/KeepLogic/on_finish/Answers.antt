use Rattle.std.proofs.Common.{◌≡◌, [], ap, sym, subst, refl, ◌∙◌}
use Rattle.port_core.specs.ActList.{ActList}
use Rattle.port_core.specs.Call.{Obeys, arrives}
use Rattle.elem_core.specs.declared.item.Item.TheVariants as item
use Rattle.stage_core.specs.declared.phase.Phase.TheVariants.{Open}
use Rattle.step_work.specs.Keeping.{work_in}
use Rattle.stage_state.specs.States.{Logic, port_state}
use Rattle.stage_state.specs.Outcomes.{working, finish_acts}
use Rattle.stage_state.specs.contracts.keep.KeepLogic.{the_view}
use Rattle.stage_state.proofs.Finishes.{none_listed, finish_obeys}
use Rattle.stage_state.proofs.keep.KeepLogic.on_finish.Goals as goal

pub returns-else-is_some-clause-ports : goal.returns-else-is_some-clause-ports
returns-else-is_some-clause-ports c =
    let l : Logic = the_view c.self.inside in
    let is : l ≡ c.args.self.now = c.self.view_is in
    let on : l.phase ≡ Open = subst (λ (x : Logic). x.phase ≡ Open) (sym is) c.requires.open in
    let none : l.pending ≡ [] = none_listed c.self.inside.pending (sym c.is_some.ensures ∙ c.if-is_some.false) in
    let w = work_in c.finish-last.new.self in
    let p = finish_obeys l w c.finish-last.result on none refl c.finish-last.ensures.1.1 in
    let a : c.end.new.acts.items ≡ finish_acts (working l w) c.finish-last.result = ap (λ (x : ActList). x.items) c.end.ensures.acts in
    let b = c.end.ensures.stage in
    subst (λ (x : Logic). Obeys (arrives 0 item.Ended) (port_state x) (port_state c.end.new.self) c.end.new.acts.items) is (rw (a, b) p)
