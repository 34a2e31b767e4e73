use Rattle.step_work.proofs.LineChains.{line_pushed, line_open, line_finished}
use Rattle.step_work.proofs.laws.stages_keep_their_list_function.Goals as goal

pub returns-clause-push : goal.returns-clause-push
returns-clause-push c = line_pushed

pub returns-clause-open : goal.returns-clause-open
returns-clause-open c = line_open

pub returns-clause-end : goal.returns-clause-end
returns-clause-end c = line_finished
