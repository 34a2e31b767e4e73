use Rattle.std.proofs.Common.{false, ap, sym, ◌∙◌}
use Rattle.stage_sub.specs.Outputs.{tagged}
use Rattle.stage_sub.specs.Picking.{first_of_sub}
use Rattle.stage_sub.specs.States.{Logic}
use Rattle.stage_sub.proofs.state.SubState.give_of.Goals as goal

pub returns-in-Some-clause-gives : goal.returns-in-Some-clause-gives
returns-in-Some-clause-gives g c = (
  tagged c.in-Some.o,
  (
    c.take_of.new.self,
    (
      ap (λ (l : Logic _). first_of_sub c.args.port l.pending) (sym c.self.view_is) ∙ c.in-Some.ensures.first,
      (ap (λ (l : Logic _). record l { pending = c.take_of.new.self; asked = false }) c.self.view_is, ap (λ a. a.items) c.add.ensures),
    ),
  ),
)
