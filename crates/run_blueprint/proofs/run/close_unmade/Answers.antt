-- The goal of `run::close_unmade` that the search leaves.
use Rattle.run_blueprint.proofs.Breaking.{closes_with}
use Rattle.run_blueprint.proofs.run.close_unmade.Goals as goal

pub returns-clause-closes : goal.returns-clause-closes
returns-clause-closes g c = closes_with _ _ _ _ _ _ c.close_broken.ensures.closes c.close_trace.ensures.closes
