use Rattle.line_chain.proofs.Starts.{first_of_task}
use Rattle.line_chain.proofs.kind.StepKind.first.Goals as goal

pub returns-in-Plain : goal.returns-in-Plain
returns-in-Plain c = rw c.in-Plain.is (first_of_task c.in-Plain._task)
