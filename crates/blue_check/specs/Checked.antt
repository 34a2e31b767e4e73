-- What is shown of a blueprint that was checked.
use Rattle.stream_model.specs.declared.blueprint.Blueprint.{Blueprint}
use Rattle.blue_check.specs.declared.checked.Checked.{Checked}

-- the blueprint that was checked
abbrev pub checked_blueprint : Checked → Blueprint
checked_blueprint c = c.blueprint
