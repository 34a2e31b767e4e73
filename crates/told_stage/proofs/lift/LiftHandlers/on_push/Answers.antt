use Rattle.std.proofs.Common.{◌∙◌, ◌++◌, ◌∷◌, [], List, refl, sym, ap}
use Rattle.graph_stage.specs.declared.ask.Ask.{Ask}
use Rattle.graph_stage.specs.declared.ask.Ask.TheVariants.{Fail}
use Rattle.told_stage.proofs.Lifting.{on_ok, on_ok_all, refused_over, refused_typed, came_go, came_finish, came_fail}
use Rattle.told_stage.proofs.lift.LiftHandlers.on_push.Goals.{then-not-may_reply-via-then-not-may_reply, then-not-may_reply-via-else-not-may_reply+then-not-is_of_type}
use Rattle.told_stage.proofs.lift.LiftHandlers.on_push.Goals as goal

pub returns-then-not-may_reply-clause-told : goal.returns-then-not-may_reply-clause-told
returns-then-not-may_reply-clause-told g c =
    on_ok c.add.result c.add.ensures.ok
    (λ a. let asked = a ∙ ap (λ (z : List Ask). z ++ Fail 0 ∷ []) c.requires.empty in
    elim c.then-not-may_reply.branch [
      | then-not-may_reply-via-then-not-may_reply w ↦ refused_over c.args.self.now.input (g.L.Logic.gives c.args.self.now.logic) (g.L.Logic.gives c.args.self.now.logic) c.args.self.now.held c.add.new.self _ _ refl c.args._port c.args.e (sym w.if-not-may_reply.ensures) asked c.stop.ensures
      | then-not-may_reply-via-else-not-may_reply+then-not-is_of_type w ↦ refused_typed c.args.self.now.input (g.L.Logic.gives c.args.self.now.logic) (g.L.Logic.gives c.args.self.now.logic) c.args.self.now.held c.add.new.self _ _ refl c.args._port c.args.e (sym w.if-not-may_reply.ensures) (sym w.if-not-is_of_type.ensures) asked c.stop.ensures
    ])

pub returns-in-Go-clause-told : goal.returns-in-Go-clause-told
returns-in-Go-clause-told g c =
    let r = c.in-Go.ensures in
    on_ok_all c.spread.result c.spread.ensures.asks c.spread.ensures.stands
    (λ a j. came_go c.args.self.now.input (g.L.Logic.gives c.args.self.now.logic) (g.L.Logic.gives c.on_elem.new.self) c.args.self.now.held c.spread.new.asks _ _ refl c.args._port c.args.e (sym c.if-not-may_reply.ensures) (sym c.if-not-is_of_type.ensures) c.on_elem.new.out r.0
    (r.1.0 ∙ ap (λ z. z ++ ((g.L.Logic.gives c.args.self.now.logic).reply [] c.args.e).gave) c.take_all-outputs.ensures.list) r.1.1 a j)

pub returns-in-Finish-clause-told : goal.returns-in-Finish-clause-told
returns-in-Finish-clause-told g c =
    let r = c.in-Finish.ensures in
    on_ok_all c.leave.result c.leave.ensures.asks c.leave.ensures.stands
    (λ a j. came_finish c.args.self.now.input (g.L.Logic.gives c.args.self.now.logic) (g.L.Logic.gives c.on_elem.new.self) c.args.self.now.held c.leave.new.asks _ _ refl c.args._port c.args.e (sym c.if-not-may_reply.ensures) (sym c.if-not-is_of_type.ensures) c.on_elem.new.out r.0
    (r.1 ∙ ap (λ z. z ++ ((g.L.Logic.gives c.args.self.now.logic).reply [] c.args.e).gave) c.take_all-outputs.ensures.list) a j)

pub returns-in-Fail-clause-told : goal.returns-in-Fail-clause-told
returns-in-Fail-clause-told g c =
    on_ok c.add-in-Fail.result c.add-in-Fail.ensures.ok
    (λ a. came_fail c.args.self.now.input (g.L.Logic.gives c.args.self.now.logic) (g.L.Logic.gives c.on_elem.new.self) c.args.self.now.held c.add-in-Fail.new.self _ _ refl c.args._port c.args.e (sym c.if-not-may_reply.ensures) (sym c.if-not-is_of_type.ensures) c.in-Fail.n c.in-Fail.ensures
    (a ∙ ap (λ (z : List Ask). z ++ Fail c.in-Fail.n ∷ []) c.requires.empty) c.stop-in-Fail.ensures)
