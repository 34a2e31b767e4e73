-- The goal of `seats::linear_work` that the search leaves.
use Rattle.materializer.proofs.Placing.{task_linear}
use Rattle.materializer.proofs.seats.linear_work.Goals as goal

pub returns-clause-work : goal.returns-clause-work
returns-clause-work g c = λ chains. record { is_linear = task_linear c.args.kind c.requires; begins = c.in_ok-new.ensures.begins }
