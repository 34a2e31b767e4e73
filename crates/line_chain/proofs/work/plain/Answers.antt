use Rattle.step_work.specs.Tasks as tasks
use Rattle.line_chain.specs.Line.{no_plugs}
use Rattle.line_chain.proofs.Replies.{replies}
use Rattle.line_chain.proofs.work.plain.Goals as goal

pub returns-in_ok-outcome-in_default : goal.returns-in_ok-outcome-in_default
returns-in_ok-outcome-in_default c = λ d. replies d (tasks.work_in c.args.task.now) c.args.e (tasks.work_in c.react.new.self) c.in_ok-outcome-in_default.outcome (c.in_ok-outcome-in_default.ensures no_plugs)
