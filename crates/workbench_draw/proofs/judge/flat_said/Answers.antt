-- The goals of `judge::flat_said` that the search leaves.
use Rattle.std.proofs.Common.{ap, Err}
use Rattle.blue_modules.specs.Text.{plain_text}
use Rattle.workbench_draw.proofs.Judged.{breaks_modules}
use Rattle.workbench_draw.proofs.judge.flat_said.Goals as goal

pub returns-in-Err-Fault-clause-unready : goal.returns-in-Err-Fault-clause-unready
returns-in-Err-Fault-clause-unready c =
    let broken = c.in-Err-Fault.ensures.fault c.in-Err-Fault.fault (ap Err c.in-Err-Fault.field-0-is) in
    breaks_modules c.args.text.now c.args.file.now (plain_text c.args.said.now) c.in-Err-Fault.fault c.requires broken
