use Rattle.std.proofs.Common.{◌∙◌, ◌++◌, ◌∷◌, [], List, refl, sym, ap}
use Rattle.graph_stage.specs.declared.ask.Ask.{Ask}
use Rattle.graph_stage.specs.declared.ask.Ask.TheVariants.{Finish}
use Rattle.graph_stage.specs.Lifted.{closing_asks}
use Rattle.told_stage.proofs.Lifting.{on_ok, on_ok_all, ended_held, ended_none, ended_over_on}
use Rattle.told_stage.proofs.lift.LiftHandlers.on_finish.Goals as goal

pub returns-then-not-is_empty-clause-told : goal.returns-then-not-is_empty-clause-told
returns-then-not-is_empty-clause-told g c =
    ended_held c.args.self.now.input (g.L.Logic.gives c.args.self.now.logic) (g.L.Logic.gives c.args.self.now.logic) c.args.self.now.held c.args.asks.now _ _ refl c.args._port (λ e. let empty = c.if-not-is_empty.ensures.1 e in cc) refl c.requires.empty c.end.ensures

pub returns-then-may_reply-clause-told : goal.returns-then-may_reply-clause-told
returns-then-may_reply-clause-told g c =
    let none = c.if-not-is_empty.ensures.0 refl in
    let reply = (g.L.Logic.gives c.args.self.now.logic).closing [] in
    on_ok_all c.close_input.result c.close_input.ensures.asks c.close_input.ensures.stands
    (λ a j. ended_none c.args.self.now.input (g.L.Logic.gives c.args.self.now.logic) (g.L.Logic.gives c.close_input.new.self.logic) c.args.self.now.held c.close_input.new.asks _ _ c.close_input.ensures.input c.args._port none (sym c.if-may_reply.ensures)
    (a ∙ ap (λ (z : List Ask). z ++ closing_asks c.args.self.now.held.course reply) c.requires.empty) j)

pub returns-clause-told : goal.returns-clause-told
returns-clause-told g c =
    let none = c.if-not-is_empty.ensures.0 refl in
    on_ok c.add.result c.add.ensures.ok
    (λ a. ended_over_on c.args.self.now.input (g.L.Logic.gives c.args.self.now.logic) (g.L.Logic.gives c.args.self.now.logic) c.args.self.now.held c.add.new.self _ _ refl c.args._port none (sym c.if-may_reply.ensures)
    (a ∙ ap (λ (z : List Ask). z ++ Finish ∷ []) c.requires.empty) c.stop.ensures)
