use Rattle.blue_check.specs.Checked.{checked_blueprint}
use Rattle.workbench_top.proofs.Saying.{passes}
use Rattle.workbench_top.proofs.texts.passed.Goals as goal

pub returns-in-Ok : goal.returns-in-Ok
returns-in-Ok c = passes c.args.text.now c.args.file.now c.in-Ok.told.items (checked_blueprint c.args.c.now) c.telling.result c.requires c.telling.ensures.ending c.telling.ensures.said c.telling.ensures.told c.in-Ok.ensures
