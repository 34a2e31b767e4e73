use Rattle.step_work.specs.Tasks.{work_in}
use Rattle.stage_linear.proofs.Workers.{at_book_said}
use Rattle.stage_linear.proofs.worker.Worker.at_once.Goals as goal

pub returns-in-Plain-clause-reacts : goal.returns-in-Plain-clause-reacts
returns-in-Plain-clause-reacts g c = rw c.in-Plain.is (at_book_said g.B.PlugBook.lists (work_in c.in-Plain.task) c.args.e.now (work_in c.at_once.new.self) c.at_once.result c.at_once.ensures.said)
