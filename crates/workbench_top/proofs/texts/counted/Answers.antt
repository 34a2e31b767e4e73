use Rattle.blue_check.specs.Checked.{checked_blueprint}
use Rattle.workbench_top.proofs.Saying.{says_units, misses}
use Rattle.workbench_top.proofs.texts.counted.Goals as goal

pub returns-in-Ok : goal.returns-in-Ok
returns-in-Ok c = says_units c.args.text.now c.args.file.now c.args.counts.now c.in-Ok.said.items (checked_blueprint c.args.c.now) c.saying.result c.requires c.saying.ensures.ending c.saying.ensures.said c.in-Ok.ensures

pub returns-in-Err : goal.returns-in-Err
returns-in-Err c = misses c.args.text.now c.args.file.now c.args.counts.now (checked_blueprint c.args.c.now) c.uncounted.result c.requires c.uncounted.ensures.ending c.uncounted.ensures.said
