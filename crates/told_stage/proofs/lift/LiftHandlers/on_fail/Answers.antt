use Rattle.std.proofs.Common.{◌∙◌, ◌++◌, ◌∷◌, [], List, refl, sym, ap}
use Rattle.graph_stage.specs.declared.ask.Ask.{Ask}
use Rattle.graph_stage.specs.declared.ask.Ask.TheVariants.{Pass}
use Rattle.told_stage.proofs.Lifting.{on_ok, on_ok_none, failed_leaving, failed_other}
use Rattle.told_stage.proofs.lift.LiftHandlers.on_fail.Goals as goal

pub returns-in-Leaves-clause-told : goal.returns-in-Leaves-clause-told
returns-in-Leaves-clause-told g c =
    failed_leaving c.args.self.now.input (g.L.Logic.gives c.args.self.now.logic) (g.L.Logic.gives c.args.self.now.logic) c.args.self.now.held c.args.asks.now _ _ refl c.args._port c.args._cause (sym c.in-Leaves.ensures) refl c.requires.empty c.turn_to.ensures

pub returns : goal.returns
returns g c = record {
  meaning = on_ok_none c.add.result;
  told =
      on_ok c.add.result c.add.ensures.ok
      (λ a. failed_other c.args.self.now.input (g.L.Logic.gives c.args.self.now.logic) (g.L.Logic.gives c.args.self.now.logic) c.args.self.now.held c.add.new.self _ _ refl c.args._port c.args._cause (λ e. c.in_default.not-Leaves (c.course.ensures ∙ e)) refl
      (a ∙ ap (λ (z : List Ask). z ++ Pass ∷ []) c.requires.empty) refl);
}
