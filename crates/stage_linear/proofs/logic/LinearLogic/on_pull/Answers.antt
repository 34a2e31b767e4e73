use Rattle.std.proofs.Common.{◌≡◌, ◌∙◌, ◌∷◌, List, ap, sym, subst}
use Rattle.port_core.specs.Call.{Obeys, pulls}
use Rattle.port_core.specs.declared.act.Act.{Act}
use Rattle.port_core.specs.declared.act.Act.TheVariants.{Push}
use Rattle.stream_model.specs.Linear.{finish_of}
use Rattle.stage_core.specs.declared.phase.Phase.TheVariants.{Open}
use Rattle.stage_linear.specs.Pending.{StaysReady, given_on_from, last_acts}
use Rattle.stage_linear.specs.States.{Logic, port_state}
use Rattle.stage_linear.proofs.States.{readied}
use Rattle.stage_core.proofs.OnOks.{on_ok_two}
use Rattle.stage_linear.proofs.Ports.{given_obeys}
use Rattle.stage_linear.proofs.logic.LinearLogic.on_pull.Goals as goal

pub returns-in-Some-clause-ports : goal.returns-in-Some-clause-ports
returns-in-Some-clause-ports g c =
    let old : Logic = c.args.self.now in
    let l : Logic = c.next_pending.new.self in
    let new : Logic = c.give_pending.new.self in
    let f = finish_of g.B.PlugBook.lists l.stage l.stage.work in
    let is : old ≡ record l { pending = c.in-Some.e ∷ l.pending } = c.in-Some.ensures.first in
    let on : l.phase ≡ Open = sym (ap (λ (x : Logic). x.phase) is) ∙ c.requires.open in
    on_ok_two c.give_pending.result c.give_pending.ensures.stage (on_ok_two c.give_pending.result c.give_pending.ensures.acts c.give_pending.ensures.ready (λ a k. (a, k)))
    (λ (s : new ≡ readied (given_on_from l f) new.ready) (q : (c.give_pending.new.acts.items ≡ Push 0 c.in-Some.e ∷ last_acts l f) × StaysReady l new).
    subst (λ (x : List Act). Obeys (pulls 0) (port_state old) (port_state new) x) (sym q.0)
    (subst (λ (x : Logic). Obeys (pulls 0) (port_state old) (port_state x) (Push 0 c.in-Some.e ∷ last_acts l f)) (sym s)
    (given_obeys old l c.in-Some.e new.ready f on is (subst (λ (x : Logic). StaysReady l x) s q.1))))
