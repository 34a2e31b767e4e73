use Rattle.blue_check.specs.Checked.{checked_blueprint}
use Rattle.workbench_top.proofs.Saying.{draws_fit}
use Rattle.workbench_top.proofs.texts.drawn_fit.Goals as goal

pub returns : goal.returns
returns c = draws_fit c.args.text.now c.args.file.now c.in_ok-said.said.items (checked_blueprint c.args.c.now) c.saying.result c.requires c.saying.ensures.ending c.saying.ensures.said c.in_ok-said.ensures
