use Rattle.stage_dropping.proofs.DropNodes.{has_cause}
use Rattle.stage_dropping.proofs.laws.a_misfit_has_its_cause.Goals as goal

pub returns : goal.returns
returns c = has_cause
