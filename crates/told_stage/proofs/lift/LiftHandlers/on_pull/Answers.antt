use Rattle.std.proofs.Common.{◌≡◌, ◌∙◌, ◌++◌, ◌∷◌, [], List, refl, ap}
use Rattle.graph_stage.specs.declared.ask.Ask.{Ask}
use Rattle.graph_stage.specs.declared.ask.Ask.TheVariants.{Pull, Push}
use Rattle.graph_stage.specs.Lifted.{Telling, asked_course, behind_last_asks}
use Rattle.told_stage.proofs.Lifting.{on_ok, on_ok_all, pulled_none, pulled_last, pulled_more}
use Rattle.told_stage.proofs.lift.LiftHandlers.on_pull.Goals as goal

pub returns-in_default-clause-told : goal.returns-in_default-clause-told
returns-in_default-clause-told g c =
    let same = c.in_default.ensures.unchanged in
    on_ok c.add.result c.add.ensures.ok
    (λ a. pulled_none c.args.self.now.input (g.L.Logic.gives c.args.self.now.logic) (g.L.Logic.gives c.args.self.now.logic) c.args.self.now.held c.add.new.self _ _ refl c.args._port c.in_default.ensures.none refl
    (a ∙ ap (λ (z : List Ask). z ++ Pull 0 ∷ []) c.requires.empty) (c.wait.ensures ∙ ap (λ (z : Telling). record z { course = asked_course z.course }) same))

pub returns-then-is_empty-clause-told : goal.returns-then-is_empty-clause-told
returns-then-is_empty-clause-told g c =
    let rest = c.next.new.self in
    let p = g.L.Logic.gives c.args.self.now.logic in
    let pushed : c.add-2.new.self ≡ Push 0 c.in-Some.first ∷ [] = c.in_ok-add.ensures.ok ∙ ap (λ (z : List Ask). z ++ Push 0 c.in-Some.first ∷ []) c.requires.empty in
    on_ok_all c.end_course.result c.end_course.ensures.asks c.end_course.ensures.stands
    (λ a j. pulled_last c.args.self.now.input (g.L.Logic.gives c.args.self.now.logic) (g.L.Logic.gives c.end_course.new.self.logic) c.args.self.now.held c.end_course.new.asks _ _ c.end_course.ensures.input c.args._port c.in-Some.first rest c.in-Some.ensures.first (c.if-is_empty.ensures.0 refl)
    (λ n. ap g.L.Logic.gives (c.end_course.ensures.logic n)) (a ∙ ap (λ (z : List Ask). z ++ behind_last_asks p rest.course) pushed) j)

pub returns-clause-told : goal.returns-clause-told
returns-clause-told g c =
    let pushed : c.add-2.new.self ≡ Push 0 c.in-Some.first ∷ [] = c.in_ok-add.ensures.ok ∙ ap (λ (z : List Ask). z ++ Push 0 c.in-Some.first ∷ []) c.requires.empty in
    pulled_more c.args.self.now.input (g.L.Logic.gives c.args.self.now.logic) (g.L.Logic.gives c.args.self.now.logic) c.args.self.now.held c.add-2.new.self _ _ refl c.args._port c.in-Some.first c.next.new.self c.in-Some.ensures.first (λ e. let empty = c.if-is_empty.ensures.1 e in cc) refl pushed refl
