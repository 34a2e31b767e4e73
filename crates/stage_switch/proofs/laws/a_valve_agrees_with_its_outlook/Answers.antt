use Rattle.stage_switch.proofs.Outlooks.{stands, counts, fits, agrees}
use Rattle.stage_switch.proofs.laws.a_valve_agrees_with_its_outlook.Goals as goal

pub returns-clause-stands : goal.returns-clause-stands
returns-clause-stands c = stands

pub returns-clause-counts : goal.returns-clause-counts
returns-clause-counts c = counts

pub returns-clause-fits : goal.returns-clause-fits
returns-clause-fits c = fits

pub returns-clause-agrees : goal.returns-clause-agrees
returns-clause-agrees c = agrees
