use Rattle.std.specs.Prelude.{[], ◌∷◌}
use Rattle.run_blueprint.proofs.Stages.{source_keeps, single_keeps, joining_keeps, zip_keeps}
use Rattle.run_blueprint.proofs.laws.stages_keep_types.Goals as goal

pub returns : goal.returns
returns c = record {
  source = source_keeps;
  single = λ g w node d o heads chains k t u keeps are steps known shape e h. single_keeps g w node d (o ∷ []) heads chains keeps are steps.all t u h k known shape e;
  joining = joining_keeps;
  zip = λ g w node d o r. zip_keeps g w node d (o ∷ r ∷ []);
}
