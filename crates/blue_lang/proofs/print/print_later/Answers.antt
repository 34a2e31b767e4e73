use Rattle.blue_lang.proofs.Printing.{later_step}
use Rattle.blue_lang.proofs.print.print_later.Goals as goal

pub loop-step-preserved : goal.loop-step-preserved
loop-step-preserved c =
    later_step c.args.steps.now c.loop-step.step-index _ _ _ _ c.loop-step-test.true c.step-item.is c.loop-step.invariant c.in_ok-print_later_step.ensures
