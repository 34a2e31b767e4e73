use Rattle.run_laws.proofs.Telling.{agrees_passes}
use Rattle.run_laws.proofs.picture_laws.what_agrees_passes.Goals as goal

pub returns : goal.returns
returns c = agrees_passes
