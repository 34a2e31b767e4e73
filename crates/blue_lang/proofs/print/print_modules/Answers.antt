use Rattle.blue_lang.proofs.Printing.{later_module}
use Rattle.blue_lang.proofs.print.print_modules.Goals as goal

pub loop-of-preserved : goal.loop-of-preserved
loop-of-preserved c =
    later_module c.args.modules.now c.loop-of.of-index _ _ _ _ c.loop-of-test.true c.of-item.is c.loop-of.invariant c.in_ok-print_module.ensures
