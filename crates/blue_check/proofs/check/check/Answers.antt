use Rattle.std.proofs.Common.{rules, subst}
use Rattle.stream_model.specs.Known.{HeadLists}
use Rattle.blue_check.specs.Fitness.{IsFit, IsFirstFault}
use Rattle.blue_check.proofs.check.check.Goals as goal

-- what was tested are the heads that were handed in
pub returns-in-Ok-Fit-clause-fit : goal.returns-in-Ok-Fit-clause-fit
returns-in-Ok-Fit-clause-fit c = subst (λ (h : HeadLists). IsFit c.args.b h c.args.taken.now) c.of.ensures (search rules)

pub returns-in-Ok-Unfit-clause-unfit : goal.returns-in-Ok-Unfit-clause-unfit
returns-in-Ok-Unfit-clause-unfit c = subst (λ (h : HeadLists). IsFirstFault c.args.b h c.args.taken.now c.in-Ok-Unfit.fault) c.of.ensures (search rules)
