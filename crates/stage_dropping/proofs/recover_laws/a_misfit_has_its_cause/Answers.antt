use Rattle.stage_dropping.proofs.RecoverNodes.{has_cause, has_cause_over}
use Rattle.stage_dropping.proofs.recover_laws.a_misfit_has_its_cause.Goals as goal

pub returns-clause-came : goal.returns-clause-came
returns-clause-came c = has_cause

pub returns-clause-outlook : goal.returns-clause-outlook
returns-clause-outlook c = has_cause_over
