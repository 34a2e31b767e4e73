use Rattle.stream_model.proofs.FalseStalls.{doubles_fit, doubles_unlawful}
use Rattle.stream_model.proofs.picture_laws.moves_are_not_spare.Goals as goal

pub returns-clause-fit : goal.returns-clause-fit
returns-clause-fit c = doubles_fit

pub returns-clause-unlawful : goal.returns-clause-unlawful
returns-clause-unlawful c = doubles_unlawful
