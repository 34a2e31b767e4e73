use Rattle.run_blueprint.proofs.Fit.{fit_passes}
use Rattle.run_blueprint.proofs.laws.fit_blueprints_pass_the_rules.Goals as goal

pub returns : goal.returns
returns c = fit_passes
