use Rattle.stage_in.proofs.Begun.{begun_agrees, begun_fits}
use Rattle.stage_in.proofs.laws.a_stage_agrees_with_its_outlook.Goals as goal

pub returns-clause-fits : goal.returns-clause-fits
returns-clause-fits c = begun_fits

pub returns-clause-agrees : goal.returns-clause-agrees
returns-clause-agrees c = begun_agrees
