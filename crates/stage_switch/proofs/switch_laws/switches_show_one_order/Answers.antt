use Rattle.stage_switch.proofs.Shown.{shown, can_still, all_fit}
use Rattle.stage_switch.proofs.switch_laws.switches_show_one_order.Goals as goal

pub returns-clause-shown : goal.returns-clause-shown
returns-clause-shown c = shown

pub returns-clause-more : goal.returns-clause-more
returns-clause-more c = can_still

pub returns-clause-fits : goal.returns-clause-fits
returns-clause-fits c = all_fit
