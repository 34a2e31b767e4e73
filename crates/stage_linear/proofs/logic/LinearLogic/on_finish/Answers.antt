use Rattle.std.proofs.Common.{◌≡◌, ◌∙◌, ◌++◌, [], List, ap, refl, sym, subst}
use Rattle.port_core.specs.ActList.{ActList}
use Rattle.port_core.specs.Call.{Obeys, arrives}
use Rattle.port_core.specs.declared.act.Act.{Act}
use Rattle.elem_core.specs.declared.item.Item.TheVariants as item
use Rattle.stream_model.specs.Linear.{finish_of}
use Rattle.stage_linear.specs.Pending.{ended_by, closed_acts}
use Rattle.stage_linear.specs.States.{Logic, port_state}
use Rattle.stage_linear.proofs.States.{readied}
use Rattle.stage_core.proofs.OnOks.{on_ok_two}
use Rattle.stage_linear.proofs.Ports.{ended_obeys}
use Rattle.stage_linear.proofs.logic.LinearLogic.on_finish.Goals as goal

pub returns-then-holds_none-clause-ports : goal.returns-then-holds_none-clause-ports
returns-then-holds_none-clause-ports g c =
    let l : Logic = c.args.self.now in
    let new : Logic = c.close_input.new.self in
    let f = finish_of g.B.PlugBook.lists l.stage l.stage.work in
    let none : l.pending ≡ [] = c.if-holds_none.ensures.0 refl in
    on_ok_two c.close_input.result c.close_input.ensures.stage c.close_input.ensures.acts
    (λ (s : new ≡ readied (ended_by l f) new.ready) (a : c.close_input.new.acts ≡ record c.args.acts.now { items = c.args.acts.now.items ++ closed_acts l f }).
    subst (λ (x : List Act). Obeys (arrives 0 item.Ended) (port_state l) (port_state new) x) (sym (ap (λ (x : ActList). x.items) a ∙ ap (λ (x : List Act). x ++ closed_acts l f) c.requires.empty))
    (subst (λ (x : Logic). Obeys (arrives 0 item.Ended) (port_state l) (port_state x) (closed_acts l f)) (sym s) (ended_obeys g.B.PlugBook.lists l new.ready c.requires.open none)))
