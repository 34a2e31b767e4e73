use Rattle.std.proofs.Common.{rules}
use Rattle.workbench_top.proofs.Answering.{asked, nothing_asked}
use Rattle.workbench_top.proofs.top.answer_plain.Goals as goal

pub returns-in-Ok-clause-answers : goal.returns-in-Ok-clause-answers
returns-in-Ok-clause-answers g c = asked c.args.words.now c.in-Ok.task _ _ c.answer_task.result (search rules) c.answer_task.ensures.answers

pub returns-in-Err-clause-answers : goal.returns-in-Err-clause-answers
returns-in-Err-clause-answers g c = nothing_asked c.args.words.now _ _ c.answer_end.result c.answer_end.ensures
