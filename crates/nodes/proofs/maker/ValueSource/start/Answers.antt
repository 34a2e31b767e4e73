use Rattle.std.proofs.Common.{refl, sym, ap, ◌∙◌, [], ◌∷◌}
use Rattle.port_core.specs.declared.act.Act.TheVariants.{FailOut}
use Rattle.nodes.specs.Maker.{Made, told_to_fail}
use Rattle.nodes.proofs.Acting.{first_act}
use Rattle.nodes.proofs.Makers.{starts_numbers, starts_nothing, starts_failure}
use Rattle.nodes.proofs.maker.ValueSource.start.Goals as goal

pub returns-in-Numbers-clause-starts : goal.returns-in-Numbers-clause-starts
returns-in-Numbers-clause-starts c = rw (← c.self.view_is) (starts_numbers _ _ _ _ _ _ _ c.in-Numbers.is refl c.requires.empty)

pub returns-in-Nothing-clause-starts : goal.returns-in-Nothing-clause-starts
returns-in-Nothing-clause-starts c =
    let x = c.args.self.now in
    starts_nothing x.node x.makes x.next x.last x.phase _ _ (sym (ap (λ (z : Made). z.makes) c.self.view_is) ∙ c.in-Nothing.is) c.close.ensures.maker (first_act _ _ _ c.close.ensures.acts c.requires.empty)

pub returns-in-Failure-clause-starts : goal.returns-in-Failure-clause-starts
returns-in-Failure-clause-starts c =
    let x = c.args.self.now in
    starts_failure x.node x.makes x.next x.last x.phase _ _ (sym (ap (λ (z : Made). z.makes) c.self.view_is) ∙ c.in-Failure.is) c.close-in-Failure.ensures.maker
    (first_act _ _ _ c.close-in-Failure.ensures.acts c.requires.empty ∙ ap (λ (z : Made). FailOut 0 (told_to_fail z.node) ∷ []) c.self.view_is)
